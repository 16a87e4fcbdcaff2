use Rattle.plan_rules.proofs.Grouped.{other_groups_stay}
use Rattle.plan_rules.proofs.Nodes.{left_rows_lead, right_records_lead, tests_turn}
use Rattle.plan_rules.proofs.laws.changes_lead_through_nodes.Goals as goal

pub returns : goal.returns
returns c = record {
  left = left_rows_lead;
  right = right_records_lead;
  turning = tests_turn;
  others = other_groups_stay;
}
