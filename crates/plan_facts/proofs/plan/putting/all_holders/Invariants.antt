use Rattle.std.proofs.Common.{◌≡◌, map, take}
use Rattle.plan_facts.specs.PlanBack.{holders_in}
use Rattle.plan_facts.proofs.plan.putting.all_holders.Given as goal

-- the holders in the classes so far
abbrev pub invariant-loop-table : goal.invariant-loop-table
invariant-loop-table l = l.held ≡ map (holders_in l.class l.id) (take l.table-index l.tables)
