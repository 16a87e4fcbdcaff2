use Rattle.std.proofs.Common.{◌≡◌, take, drop, [], zip}
use Rattle.plan_facts.specs.First.{first_fault}
use Rattle.plan_facts.specs.PlanFaults.{value_fault}
use Rattle.plan_facts.proofs.check.check_values.Given as goal

-- no fault stands before this place
abbrev pub invariant-loop-place : goal.invariant-loop-place
invariant-loop-place g l =
    first_fault (value_fault (g.L.LiveFacts.live l.facts) l.class l.id) [] (zip l.ranges l.values) ≡ first_fault (value_fault (g.L.LiveFacts.live l.facts) l.class l.id) (take l.place (zip l.ranges l.values)) (drop l.place (zip l.ranges l.values))
