use Rattle.plan_changes.proofs.Kept.{AreAssigned}
use Rattle.plan_changes.proofs.ready.Ready.assign.Given as goal

-- the variables so far were set
abbrev pub invariant-loop-place : goal.invariant-loop-place
invariant-loop-place l = AreAssigned l.self.class l.self.id l.self.values l.fn.plan l.place l.plan
