use Rattle.std.proofs.Common.{◌∙◌}
use Rattle.score_director.proofs.Reweighed.{weighed_names, weighed_plan}
use Rattle.score_director.proofs.director.change.weights_changed.Goals as goal

pub returns-clause-plan : goal.returns-clause-plan
returns-clause-plan c = c.in_ok-perform.ensures.plan ∙ weighed_plan c.args.ready.now c.args.names.now c.args.plan.now c.requires.deed

pub returns-clause-names : goal.returns-clause-names
returns-clause-names c = c.in_ok-perform.ensures.names ∙ weighed_names c.args.ready.now c.args.names.now c.requires.deed
