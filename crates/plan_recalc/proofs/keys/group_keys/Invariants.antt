use Rattle.std.proofs.Common.{◌≡◌, map, take}
use Rattle.plan_rules.specs.Groups.{group_key}
use Rattle.plan_recalc.proofs.keys.group_keys.Given as goal

-- the keys of the rows so far
abbrev pub invariant-loop-row : goal.invariant-loop-row
invariant-loop-row g l = l.row_keys ≡ map (group_key g.B.Book.meaning l.keys) (take l.row-index l.rows)
