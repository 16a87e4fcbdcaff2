use Rattle.std.proofs.Common.{◌≡◌, take}
use Rattle.plan_rules.specs.Groups.{group_key}
use Rattle.plan_recalc.proofs.keys.group_key.Given as goal

-- the numbers of the keys so far
abbrev pub invariant-loop-key : goal.invariant-loop-key
invariant-loop-key g l = l.numbers ≡ group_key g.B.Book.meaning (take l.key-index l.keys) l.row
