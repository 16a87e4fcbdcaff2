use Rattle.std.proofs.Common.{◌≡◌, take, fold}
use Rattle.plan_moves.specs.Edits.{with_new}
use Rattle.plan_moves.proofs.edit.Edit.put_all.Given as goal

-- the sets so far were added
abbrev pub invariant-loop-set : goal.invariant-loop-set
invariant-loop-set l = l.self ≡ fold with_new l.initial.self (take l.set-index l.sets)
