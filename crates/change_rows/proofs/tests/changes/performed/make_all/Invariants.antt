use Rattle.plan_changes.specs.Fits.{IsOfSchema}
use Rattle.change_rows.proofs.tests.changes.performed.make_all.Given as goal

-- the plan stays of its schema
abbrev pub invariant-loop-line : goal.invariant-loop-line
invariant-loop-line l = IsOfSchema l.world.schema l.world.plan
