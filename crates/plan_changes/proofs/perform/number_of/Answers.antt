use Rattle.std.proofs.Common.{◌∙◌}
use Rattle.plan_changes.proofs.Ranges.{next_number}
use Rattle.plan_changes.proofs.perform.number_of.Goals as goal

pub returns-in-None : goal.returns-in-None
returns-in-None c = c.count.ensures.count ∙ next_number c.args.names.now c.args.text.now c.in-None.ensures.place
