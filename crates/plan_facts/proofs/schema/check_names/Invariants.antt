use Rattle.std.proofs.Common.{◌≡◌, take, drop, []}
use Rattle.plan_facts.specs.First.{first_fault}
use Rattle.plan_facts.specs.Schema.{name_fault}
use Rattle.plan_facts.proofs.schema.check_names.Given as goal

-- no fault stands before this place
abbrev pub invariant-loop-place : goal.invariant-loop-place
invariant-loop-place l = first_fault name_fault [] l.classes ≡ first_fault name_fault (take l.place l.classes) (drop l.place l.classes)
