use Rattle.std.proofs.Common.{◌≡◌, map, take}
use Rattle.plan_rules.specs.Groups.{group_row}
use Rattle.plan_recalc.proofs.group.group_rows.Given as goal

-- the rows of the keys so far
abbrev pub invariant-loop-key : goal.invariant-loop-key
invariant-loop-key g l = l.groups.items ≡ map (group_row g.B.Book.meaning l.keys l.collect l.rows) (take l.key-index l.key-items)
