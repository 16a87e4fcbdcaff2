use Rattle.plan_rules.proofs.Changes.{changes_are_exact, changes_cancel, changes_join}
use Rattle.plan_rules.proofs.laws.changes_add_up.Goals as goal

pub returns : goal.returns
returns c = record {
  join = changes_join;
  cancel = changes_cancel;
  exact = changes_are_exact;
}
