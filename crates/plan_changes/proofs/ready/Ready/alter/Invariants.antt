use Rattle.plan_changes.proofs.Kept.{AreAltered}
use Rattle.plan_changes.proofs.ready.Ready.alter.Given as goal

-- the fields so far were set
abbrev pub invariant-loop-place : goal.invariant-loop-place
invariant-loop-place l = AreAltered l.names l.self.class l.self.id l.self.fields l.fn.plan l.place l.plan
