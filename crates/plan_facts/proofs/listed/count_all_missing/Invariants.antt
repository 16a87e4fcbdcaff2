use Rattle.std.proofs.Common.{◌≡◌, take}
use Rattle.plan_facts.specs.Plan.{plan_with, unplaced_of}
use Rattle.plan_facts.proofs.listed.count_all_missing.Given as goal

-- the missing values so far
abbrev pub invariant-loop-table : goal.invariant-loop-table
invariant-loop-table l = l.missing ≡ unplaced_of (plan_with (take l.table-index l.tables) 0)
