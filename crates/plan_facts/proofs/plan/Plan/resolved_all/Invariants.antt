use Rattle.std.proofs.Common.{◌≡◌, take, map}
use Rattle.plan_facts.specs.Plan.{resolved}
use Rattle.plan_facts.proofs.plan.Plan.resolved_all.Given as goal

-- the records so far
abbrev pub invariant-loop-raw : goal.invariant-loop-raw
invariant-loop-raw l = l.records ≡ map (resolved l.self l.class) (take l.raw-index l.facts)
