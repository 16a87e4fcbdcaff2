use Rattle.std.proofs.Common.{◌≡◌, take, map}
use Rattle.serde_json.specs.View.{view}
use Rattle.problem_records.specs.Facts.{raw_of}
use Rattle.problem_records.proofs.raws.class_raws.Given as goal

-- the records so far
abbrev pub invariant-loop-entry : goal.invariant-loop-entry
invariant-loop-entry l = l.raws ≡ map (raw_of l.names l.class) (map view (take l.entry-index l.entries))
