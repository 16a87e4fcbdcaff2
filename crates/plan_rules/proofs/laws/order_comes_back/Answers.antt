use Rattle.plan_rules.proofs.ById.{plans_are_by_id}
use Rattle.plan_rules.proofs.Pairs.{pairs_are_joins}
use Rattle.plan_rules.proofs.Restored.{sorting_restores_rows}
use Rattle.plan_rules.proofs.RowOrder.{rows_are_in_order}
use Rattle.plan_rules.proofs.laws.order_comes_back.Goals as goal

pub returns : goal.returns
returns c = record {
  plans = plans_are_by_id;
  pairs = pairs_are_joins;
  in_order = rows_are_in_order;
  sorted = sorting_restores_rows;
}
