-- The ids of the records that a class lists.
use Rattle.std.specs.Prelude.{◌≡◌, ℕ, List}
use Rattle.serde_json.specs.Data.{Data}
use Rattle.plan_facts.specs.Listed.{Ids}
use Rattle.plan_facts.specs.Listed.{has_id as has_listed}
use Rattle.problem_records.specs.RecordFaults.{has_id}

-- a set has just the ids of these records
abbrev pub HasIdsOf : List Data → Ids → Type 0
HasIdsOf entries ids = (id : ℕ) → has_listed ids id ≡ has_id entries id
