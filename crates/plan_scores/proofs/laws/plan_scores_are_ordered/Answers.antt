use Rattle.plan_scores.specs.Total.{plan_score_cmp_total}
use Rattle.plan_scores.proofs.Compared.{plan_score_cmp-tells_apart, is_worse_plan-placed, placed-is_worse_plan}
use Rattle.plan_scores.proofs.laws.plan_scores_are_ordered.Goals as goal

pub returns : goal.returns
returns c = record {
  total = plan_score_cmp_total;
  apart = plan_score_cmp-tells_apart;
  words = λ a b. (is_worse_plan-placed a b, placed-is_worse_plan a b);
}
