use Rattle.std.proofs.Common.{◌≡◌, take, drop, []}
use Rattle.plan_facts.specs.First.{first_fault}
use Rattle.plan_facts.specs.Schema.{var_count_fault}
use Rattle.plan_facts.proofs.schema.check_var_counts.Given as goal

-- no fault stands before this place
abbrev pub invariant-loop-place : goal.invariant-loop-place
invariant-loop-place l = first_fault var_count_fault [] l.classes ≡ first_fault var_count_fault (take l.place l.classes) (drop l.place l.classes)
