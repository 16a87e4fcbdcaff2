use Rattle.std.proofs.Common.{rules}
use Rattle.plan_scores.specs.Order.{score_cmp}
use Rattle.plan_scores.proofs.score.ScoreOrd.cmp.Goals as goal

pub returns : goal.returns
unfolding score_cmp
returns c = search rules
