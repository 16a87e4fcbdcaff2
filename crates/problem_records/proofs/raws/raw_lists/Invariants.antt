use Rattle.std.proofs.Common.{◌≡◌, take}
use Rattle.serde_json.specs.View.{view}
use Rattle.problem_records.specs.Facts.{raw_lists}
use Rattle.problem_records.proofs.raws.raw_lists.Given as goal

-- the records of the classes so far
abbrev pub invariant-loop-n : goal.invariant-loop-n
invariant-loop-n l = l.lists ≡ raw_lists l.names (take l.n l.schema) (view l.facts)
