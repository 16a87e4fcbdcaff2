use Rattle.std.proofs.Common.{rules}
use Rattle.problem_records.specs.Shapes.{known_names}
use Rattle.problem_records.proofs.record.has_other_member.Goals as goal

pub returns : goal.returns
returns c = c.has_other.ensures (known_names c.args.class.now) (record { answers = λ name known said. search rules })
