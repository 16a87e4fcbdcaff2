use Rattle.std.proofs.Common.{◌≡◌, take}
use Rattle.plan_facts.proofs.plan.Plan.copy.Given as goal

-- what was copied so far
abbrev pub invariant-loop-table : goal.invariant-loop-table
invariant-loop-table l = l.tables.items ≡ take l.table-index l.table-items
