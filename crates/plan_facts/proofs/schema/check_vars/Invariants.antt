use Rattle.std.proofs.Common.{◌≡◌, take, drop, []}
use Rattle.plan_facts.specs.First.{first_fault}
use Rattle.plan_facts.specs.Schema.{var_range_fault}
use Rattle.plan_facts.proofs.schema.check_vars.Given as goal

-- no fault stands before this place
abbrev pub invariant-loop-place : goal.invariant-loop-place
invariant-loop-place l =
    first_fault (var_range_fault l.classes l.class) [] l.vars ≡ first_fault (var_range_fault l.classes l.class) (take l.place l.vars) (drop l.place l.vars)
