use Rattle.std.proofs.Common.{◌≡◌, ◌+◌, take}
use Rattle.serde_json.specs.View.{view}
use Rattle.problem_records.specs.RecordFaults.{count_of}
use Rattle.problem_records.proofs.records.has_too_many.Given as goal

-- how many records more the facts may list after those of the classes so far
abbrev pub invariant-loop-n : goal.invariant-loop-n
invariant-loop-n l = l.left + count_of (take l.n l.schema) (view l.facts) ≡ 100000
