use Rattle.plan_scores.proofs.FirstBest.{first_best_first}
use Rattle.plan_scores.proofs.laws.first_best_is_first.Goals as goal

pub returns : goal.returns
returns g c = first_best_first _
