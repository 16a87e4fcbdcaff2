use Rattle.std.proofs.Common.{◌≡◌, take, map}
use Rattle.plan_facts.proofs.listed.ranges_of.Given as goal

-- the value classes so far
abbrev pub invariant-loop-var : goal.invariant-loop-var
invariant-loop-var l = l.ranges ≡ map (λ var. var.values) (take l.var-index l.var-items)
