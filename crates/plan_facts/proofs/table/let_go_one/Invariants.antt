use Rattle.std.proofs.Common.{◌≡◌, ◌++◌, take, drop, map, zip}
use Rattle.plan_facts.specs.PlanChanges.{let_go}
use Rattle.plan_facts.proofs.table.let_go_one.Given as goal

-- the variables so far have let the fact go, and the others are as they were
abbrev pub invariant-loop-var : goal.invariant-loop-var
invariant-loop-var l = l.values ≡ map (λ pair. let_go l.class l.id pair.0 pair.1) (take l.var (zip l.ranges l.initial.values)) ++ drop l.var l.initial.values
