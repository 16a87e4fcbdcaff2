use Rattle.std.proofs.Common.{rules}
use Rattle.plan_scores.specs.Order.{plan_score_cmp}
use Rattle.plan_scores.proofs.plan_score.PlanScoreOrd.cmp.Goals as goal

pub returns : goal.returns
unfolding plan_score_cmp
returns c = search rules
