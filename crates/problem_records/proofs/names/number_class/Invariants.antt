use Rattle.std.proofs.Common.{◌≡◌, ◌≤◌, ◌+◌, ◌*◌, take, length, fold, map}
use Rattle.std.specs.List.{flat_map}
use Rattle.serde_json.specs.View.{view}
use Rattle.plan_facts.specs.Names.{with_name}
use Rattle.problem_records.specs.Facts.{record_texts}
use Rattle.problem_records.proofs.names.number_class.Given as goal

-- the names with those of the records so far
abbrev pub invariant-loop-entry : goal.invariant-loop-entry
invariant-loop-entry l = record {
  names : l.names ≡ fold with_name l.fn.names (flat_map (record_texts l.class) (map view (take l.entry-index l.entries)));
  few : length l.names ≤ length l.fn.names + 16 * l.entry-index;
}
