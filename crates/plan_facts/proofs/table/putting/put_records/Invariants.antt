use Rattle.std.proofs.Common.{◌≡◌, length}
use Rattle.plan_facts.specs.Plan.{AreIncreasing, ids_in}
use Rattle.plan_facts.specs.PlanBack.{with_records}
use Rattle.plan_facts.proofs.table.putting.put_records.Given as goal

-- what is still to be put makes of the class what all of it makes
abbrev pub invariant-records : goal.invariant-records
invariant-records l = record {
  increasing : AreIncreasing (ids_in l.table.facts);
  goes_on : with_records l.table l.records ≡ with_records l.fn.table l.fn.records;
}

abbrev pub decreases-records : goal.decreases-records
decreases-records l = length l.records
