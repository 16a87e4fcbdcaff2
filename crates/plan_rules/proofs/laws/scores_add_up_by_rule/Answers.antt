use Rattle.plan_rules.proofs.Scores.{scores_are_of_rules}
use Rattle.plan_rules.proofs.laws.scores_add_up_by_rule.Goals as goal

pub returns : goal.returns
returns c = record { sum = scores_are_of_rules }
