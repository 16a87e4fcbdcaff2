use Rattle.plan_rules.proofs.Grouped.{groups_forget_order}
use Rattle.plan_rules.proofs.Nodes.{meeting_forgets_order}
use Rattle.plan_rules.proofs.RowEquality.{same_are_rearranged}
use Rattle.plan_rules.proofs.Streams.{nodes_keep_sameness}
use Rattle.plan_rules.proofs.laws.order_may_be_forgotten.Goals as goal

pub returns : goal.returns
returns c = record {
  rearranged = same_are_rearranged;
  nodes = nodes_keep_sameness;
  groups = groups_forget_order;
  meeting = meeting_forgets_order;
}
