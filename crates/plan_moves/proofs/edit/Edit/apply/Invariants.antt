use Rattle.plan_moves.proofs.Shape.{IsApplied}
use Rattle.plan_moves.proofs.edit.Edit.apply.Given as goal

-- the sets so far were applied, and the edit is still legal
abbrev pub invariant-loop-set : goal.invariant-loop-set
invariant-loop-set l = IsApplied l.initial.plan l.set-items l.set-index l.plan
