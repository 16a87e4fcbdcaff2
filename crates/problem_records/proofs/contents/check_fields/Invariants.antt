use Rattle.std.proofs.Common.{◌≡◌, take, drop, []}
use Rattle.serde_json.specs.View.{view}
use Rattle.plan_facts.specs.First.{first_fault}
use Rattle.problem_records.specs.RecordFaults.{field_fault}
use Rattle.problem_records.proofs.contents.check_fields.Given as goal

-- no fault stands before this place
abbrev pub invariant-loop-place : goal.invariant-loop-place
invariant-loop-place l =
    first_fault (field_fault l.class (view l.entry)) [] l.fields ≡ first_fault (field_fault l.class (view l.entry)) (take l.place l.fields) (drop l.place l.fields)
