use Rattle.std.proofs.Common.{◌≡◌, take, drop, []}
use Rattle.plan_facts.specs.First.{first_fault}
use Rattle.plan_facts.specs.PlanFaults.{record_values_fault}
use Rattle.plan_facts.proofs.listed.check_values_of.Given as goal

-- no fault stands before this place
abbrev pub invariant-loop-place : goal.invariant-loop-place
invariant-loop-place g l =
    first_fault (record_values_fault (g.L.LiveFacts.live l.facts) l.class l.ranges) [] l.raws ≡ first_fault (record_values_fault (g.L.LiveFacts.live l.facts) l.class l.ranges) (take l.place l.raws) (drop l.place l.raws)
