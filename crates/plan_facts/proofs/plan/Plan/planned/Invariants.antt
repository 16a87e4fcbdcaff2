use Rattle.std.proofs.Common.{◌≡◌, take, map, zip}
use Rattle.plan_facts.specs.Plan.{held_value}
use Rattle.plan_facts.proofs.plan.Plan.planned.Given as goal

-- what the variables so far hold
abbrev pub invariant-loop-var : goal.invariant-loop-var
invariant-loop-var l = l.planned ≡ map (λ pair. held_value l.self pair.0 pair.1) (take l.var (zip l.ranges l.values))
