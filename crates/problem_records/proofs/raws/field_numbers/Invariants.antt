use Rattle.std.proofs.Common.{◌≡◌, take, map}
use Rattle.serde_json.specs.View.{view}
use Rattle.problem_records.specs.Facts.{field_number}
use Rattle.problem_records.proofs.raws.field_numbers.Given as goal

-- what the fields so far hold
abbrev pub invariant-loop-field : goal.invariant-loop-field
invariant-loop-field l = l.numbers ≡ map (field_number l.names (view l.entry)) (take l.field-index l.field-items)
