use Rattle.std.proofs.Common.{◌≡◌}
use Rattle.plan_facts.specs.Plan.{PlanView}
use Rattle.plan_rules.specs.Range.{sizes_of}
use Rattle.plan_session.specs.WayBack.{IsWayBack}
use Rattle.plan_session.proofs.best.lead_back.Given as goal

abbrev pub invariant-edits : goal.invariant-edits
invariant-edits l = record {
  some : (best : PlanView) × IsWayBack best l.back.items l.plan;
  goes_on : (best : PlanView) → IsWayBack best l.fn.back.items l.fn.plan → IsWayBack best l.back.items l.plan;
  sizes : sizes_of l.plan ≡ sizes_of l.fn.plan;
}

abbrev pub decreases-edits : goal.decreases-edits
decreases-edits l = goal.left-edits l
