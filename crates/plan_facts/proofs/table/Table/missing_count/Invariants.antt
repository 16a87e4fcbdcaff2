use Rattle.std.proofs.Common.{◌≡◌, take}
use Rattle.plan_facts.specs.Plan.{nulls_in}
use Rattle.plan_facts.proofs.table.Table.missing_count.Given as goal

-- the missing values so far
abbrev pub invariant-loop-raw : goal.invariant-loop-raw
invariant-loop-raw l = l.missing ≡ nulls_in l.self.nullables (take l.raw-index l.raw-items)
