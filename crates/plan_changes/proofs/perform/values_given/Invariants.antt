use Rattle.std.proofs.Common.{◌≡◌, take, map}
use Rattle.plan_changes.specs.Named.{value_given}
use Rattle.plan_changes.proofs.perform.values_given.Given as goal

-- what the variables so far hold
abbrev pub invariant-loop-value : goal.invariant-loop-value
invariant-loop-value l = l.given ≡ map value_given (take l.value-index l.values)
