use Rattle.std.proofs.Common.{◌∙◌}
use Rattle.problem_records.proofs.Steps.{next_number}
use Rattle.problem_records.proofs.raws.number_of.Goals as goal

pub returns-in-None : goal.returns-in-None
returns-in-None c = c.count.ensures.count ∙ next_number c.args.names.now c.args.text.now c.in-None.ensures.place
