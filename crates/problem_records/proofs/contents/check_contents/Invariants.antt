use Rattle.std.proofs.Common.{◌≡◌, take, drop, []}
use Rattle.serde_json.specs.View.{view}
use Rattle.plan_facts.specs.First.{first_fault}
use Rattle.problem_records.specs.RecordFaults.{class_fault}
use Rattle.problem_records.proofs.contents.check_contents.Given as goal

-- no fault stands in the classes before this one
abbrev pub invariant-loop-n : goal.invariant-loop-n
invariant-loop-n l = first_fault (class_fault (view l.facts)) [] l.schema ≡ first_fault (class_fault (view l.facts)) (take l.n l.schema) (drop l.n l.schema)
