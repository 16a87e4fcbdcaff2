use Rattle.std.proofs.Common.{◌≡◌, take, drop, map, []}
use Rattle.serde_json.specs.View.{view}
use Rattle.plan_facts.specs.First.{first_fault}
use Rattle.problem_records.specs.Listed.{HasIdsOf}
use Rattle.problem_records.specs.RecordFaults.{record_fault}
use Rattle.problem_records.proofs.contents.check_class.Given as goal

-- no fault stands before this place, and the set has the ids up to it
abbrev pub invariant-loop-place : goal.invariant-loop-place
invariant-loop-place l = record {
  so_far : first_fault (record_fault l.class) [] (map view l.entries) ≡ first_fault (record_fault l.class) (take l.place (map view l.entries)) (drop l.place (map view l.entries));
  ids : HasIdsOf (take l.place (map view l.entries)) l.ids;
}
