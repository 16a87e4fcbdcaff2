use Rattle.std.proofs.Common.{◌≡◌, take, drop, zip, []}
use Rattle.plan_facts.specs.First.{first_fault}
use Rattle.plan_facts.specs.PlanFaults.{class_values_fault}
use Rattle.plan_facts.proofs.listed.check_all_values.Given as goal

-- no fault stands in the classes so far
abbrev pub invariant-loop-class : goal.invariant-loop-class
invariant-loop-class g l =
    first_fault (class_values_fault (g.L.LiveFacts.live l.facts)) [] (zip l.schema l.lists) ≡ first_fault (class_values_fault (g.L.LiveFacts.live l.facts)) (take l.class (zip l.schema l.lists)) (drop l.class (zip l.schema l.lists))
