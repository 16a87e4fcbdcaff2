use Rattle.std.proofs.Common.{◌≡◌, ◌≤◌, ◌*◌, take, length, fold, []}
use Rattle.std.specs.List.{flat_map}
use Rattle.serde_json.specs.View.{view}
use Rattle.plan_facts.specs.Names.{with_name}
use Rattle.problem_records.specs.Facts.{class_texts}
use Rattle.problem_records.specs.RecordFaults.{count_of}
use Rattle.problem_records.proofs.names.names_of.Given as goal

-- the names of the classes so far
abbrev pub invariant-loop-n : goal.invariant-loop-n
invariant-loop-n l = record {
  names : l.names ≡ fold with_name [] (flat_map (class_texts (view l.facts)) (take l.n l.schema));
  few : length l.names ≤ 16 * count_of (take l.n l.schema) (view l.facts);
}
