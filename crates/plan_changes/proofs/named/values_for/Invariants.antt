use Rattle.std.proofs.Common.{◌≡◌, take, map}
use Rattle.plan_changes.specs.Named.{value_for}
use Rattle.plan_changes.proofs.named.values_for.Given as goal

-- what the items give the variables so far
abbrev pub invariant-loop-var : goal.invariant-loop-var
invariant-loop-var l = l.given ≡ map (value_for l.items) (take l.var-index l.var-items)
