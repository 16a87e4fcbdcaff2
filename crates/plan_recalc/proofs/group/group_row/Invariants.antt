use Rattle.std.proofs.Common.{◌≡◌, map, take}
use Rattle.plan_rules.specs.declared.row.Part.TheVariants.{Num}
use Rattle.plan_recalc.proofs.group.group_row.Given as goal

-- the numbers so far
abbrev pub invariant-loop-part : goal.invariant-loop-part
invariant-loop-part l = l.row ≡ map (λ n. Num n) (take l.part-index l.key)
