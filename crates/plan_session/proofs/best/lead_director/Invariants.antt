use Rattle.std.proofs.Common.{◌≡◌, None, vec_len}
use Rattle.plan_facts.specs.Plan.{PlanView}
use Rattle.plan_rules.specs.Range.{sizes_of}
use Rattle.plan_session.specs.WayBack.{IsWayBack}
use Rattle.plan_session.proofs.best.lead_director.Given as goal

abbrev pub invariant-edits : goal.invariant-edits
invariant-edits g l = record {
  some : (best : PlanView) × IsWayBack best l.back.items l.director.plan;
  goes_on : (best : PlanView) → IsWayBack best l.fn.back.items l.fn.director.plan → IsWayBack best l.back.items l.director.plan;
  rules : l.director.rules ≡ l.fn.director.rules;
  weights : l.director.weights ≡ l.fn.director.weights;
  sizes : sizes_of l.director.plan ≡ sizes_of l.fn.director.plan;
  rest : l.director.base ≡ None;
}

abbrev pub decreases-edits : goal.decreases-edits
decreases-edits g l = vec_len l.back
