use Rattle.std.proofs.Common.{◌≡◌, take, drop, []}
use Rattle.plan_facts.specs.First.{first_fault}
use Rattle.plan_facts.specs.PlanFaults.{number_fault}
use Rattle.plan_facts.proofs.check.check_fields.Given as goal

-- no fault stands before this place
abbrev pub invariant-loop-place : goal.invariant-loop-place
invariant-loop-place l =
    first_fault (number_fault l.class l.id) [] l.fields ≡ first_fault (number_fault l.class l.id) (take l.place l.fields) (drop l.place l.fields)
