use Rattle.std.proofs.Common.{◌≡◌, ◌++◌, take, drop, map}
use Rattle.plan_facts.specs.PlanChanges.{record_let_go}
use Rattle.plan_facts.proofs.table.let_go_all.Given as goal

-- the records so far have let the fact go, and the others are as they were
abbrev pub invariant-loop-raw : goal.invariant-loop-raw
invariant-loop-raw l =
    l.raw-items ≡ map (record_let_go l.class l.id l.ranges) (take l.raw-index l.initial.raw-items) ++ drop l.raw-index l.initial.raw-items
