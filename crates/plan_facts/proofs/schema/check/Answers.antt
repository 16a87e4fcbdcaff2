use Rattle.std.proofs.Common.{sym}
use Rattle.plan_facts.proofs.SchemaLaws.{few_members}
use Rattle.plan_facts.proofs.schema.check.Goals as goal

pub check_names-requires-clause-members : goal.check_names-requires-clause-members
check_names-requires-clause-members c = few_members _ (sym c.in_ok-check_field_counts.ensures) (sym c.in_ok-check_var_counts.ensures)

pub check_ranges-requires-clause-members : goal.check_ranges-requires-clause-members
check_ranges-requires-clause-members c = few_members _ (sym c.in_ok-check_field_counts.ensures) (sym c.in_ok-check_var_counts.ensures)
