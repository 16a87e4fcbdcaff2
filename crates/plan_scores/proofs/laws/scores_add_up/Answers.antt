use Rattle.plan_scores.proofs.Summed.{minus_scores-add_scores, add_scores-minus_scores, sum_of-append, sum_of-rewards, sum_of-penalties, IsWithin-add_scores, FitsScore-within}
use Rattle.plan_scores.proofs.laws.scores_add_up.Goals as goal

pub returns : goal.returns
returns c = record {
  undo = minus_scores-add_scores;
  redo = add_scores-minus_scores;
  join = sum_of-append;
  rewards = λ level weights. sum_of-rewards level (λ w. w) weights;
  penalties = λ level weights. sum_of-penalties level (λ w. w) weights;
  bounds = IsWithin-add_scores;
  fits = FitsScore-within;
}
