use Rattle.std.proofs.Common.{◌≡◌, map, take}
use Rattle.plan_rules.proofs.handed.names_of.Given as goal

-- the names so far
abbrev pub invariant-loop-def : goal.invariant-loop-def
invariant-loop-def l = l.names ≡ map (λ def. def.name) (take l.def-index l.defs)
