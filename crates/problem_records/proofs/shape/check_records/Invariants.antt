use Rattle.std.proofs.Common.{◌≡◌, take, drop, map, []}
use Rattle.serde_json.specs.View.{view}
use Rattle.plan_facts.specs.First.{first_fault}
use Rattle.problem_records.specs.Shapes.{record_shape_fault}
use Rattle.problem_records.proofs.shape.check_records.Given as goal

-- no fault stands before this place
abbrev pub invariant-loop-place : goal.invariant-loop-place
invariant-loop-place l = first_fault (record_shape_fault l.class) [] (map view l.records) ≡ first_fault (record_shape_fault l.class) (take l.place (map view l.records)) (drop l.place (map view l.records))
