use Rattle.std.proofs.Common.{◌≡◌, take, fold, max}
use Rattle.plan_facts.proofs.table.greatest_of.Given as goal

-- the greatest id so far
abbrev pub invariant-loop-id : goal.invariant-loop-id
invariant-loop-id l = l.greatest ≡ fold max 0 (take l.id-index l.ids)
