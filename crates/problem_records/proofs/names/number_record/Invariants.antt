use Rattle.std.proofs.Common.{◌≡◌, ◌≤◌, ◌+◌, take, length, fold}
use Rattle.std.specs.List.{flat_map}
use Rattle.serde_json.specs.View.{view}
use Rattle.plan_facts.specs.Names.{with_name}
use Rattle.problem_records.specs.Facts.{field_texts}
use Rattle.problem_records.proofs.names.number_record.Given as goal

-- the names with those of the fields so far
abbrev pub invariant-loop-field : goal.invariant-loop-field
invariant-loop-field l = record {
  names : l.names ≡ fold with_name l.fn.names (flat_map (field_texts (view l.entry)) (take l.field-index l.field-items));
  few : length l.names ≤ length l.fn.names + l.field-index;
}
