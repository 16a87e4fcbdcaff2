use Rattle.std.proofs.Common.{◌≡◌, filter, take}
use Rattle.plan_facts.specs.PlanBack.{record_holds}
use Rattle.plan_facts.proofs.table.Table.holders.Given as goal

-- the records so far that hold the fact
abbrev pub invariant-loop-raw : goal.invariant-loop-raw
invariant-loop-raw l = l.held ≡ filter (record_holds l.class l.id l.ranges) (take l.raw-index l.raw-items)
