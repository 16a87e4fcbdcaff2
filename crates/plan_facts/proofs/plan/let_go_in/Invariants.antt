use Rattle.std.proofs.Common.{◌≡◌, ◌++◌, take, drop, map}
use Rattle.plan_facts.specs.PlanChanges.{class_let_go}
use Rattle.plan_facts.proofs.plan.let_go_in.Given as goal

-- the classes so far have let the fact go, and the others are as they were
abbrev pub invariant-loop-table : goal.invariant-loop-table
invariant-loop-table l =
    l.table-items ≡ map (class_let_go l.class l.id) (take l.table-index l.initial.table-items) ++ drop l.table-index l.initial.table-items
