use Rattle.std.proofs.Common.{◌≡◌, take, drop, []}
use Rattle.plan_facts.specs.First.{first_fault}
use Rattle.plan_facts.specs.Schema.{range_fault}
use Rattle.plan_facts.proofs.schema.check_ranges.Given as goal

-- no fault stands before this place
abbrev pub invariant-loop-place : goal.invariant-loop-place
invariant-loop-place l =
    first_fault (range_fault l.classes) [] l.classes ≡ first_fault (range_fault l.classes) (take l.place l.classes) (drop l.place l.classes)
