use Rattle.std.proofs.Common.{◌≡◌, take, zip, length, map}
use Rattle.plan_facts.specs.Plan.{held_value}
use Rattle.plan_facts.proofs.plan.Plan.refill_planned.Given as goal

-- the variables before this one hold what they hold in the plan
abbrev pub invariant-loop-var : goal.invariant-loop-var
invariant-loop-var l = record {
  filled : take l.var l.planned ≡ map (λ pair. held_value l.self pair.0 pair.1) (take l.var (zip l.ranges l.values));
  long : length l.planned ≡ length l.ranges;
}
