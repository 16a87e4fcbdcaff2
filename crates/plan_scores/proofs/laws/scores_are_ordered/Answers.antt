use Rattle.plan_scores.specs.Total.{score_cmp_total}
use Rattle.plan_scores.proofs.Compared.{score_cmp-tells_apart, is_worse-first, first-is_worse}
use Rattle.plan_scores.proofs.laws.scores_are_ordered.Goals as goal

pub returns : goal.returns
returns c = record {
  total = score_cmp_total;
  apart = score_cmp-tells_apart;
  words = λ a b. (is_worse-first a b, first-is_worse a b);
}
