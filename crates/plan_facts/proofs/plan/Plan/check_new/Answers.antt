use Rattle.std.proofs.Common.{ap, arith}
use Rattle.std.proofs.lemmas.Result.{err_from_is_err_and}
use Rattle.plan_facts.specs.Plan.{PlanView}
use Rattle.plan_facts.proofs.Added.{values_count}
use Rattle.plan_facts.proofs.plan.Plan.check_new.Goals as goal

pub returns-in_err-check_values-clause-fault : goal.returns-in_err-check_values-clause-fault
returns-in_err-check_values-clause-fault c =
    let p = err_from_is_err_and c.from_residual-in_err-check_values.result c.from_residual-in_err-check_values.ensures.1 in
    let made = ap (λ (plan : PlanView). plan.made) c.self.view_is in
    rw (p.1, p.2) (values_count c.args.self.now c.args.class c.args.fields.now c.args.values.now c.in_err-check_values.field-0.0 (omega arith) (rw (c.next_id-id.ensures.id, c.fields.ensures, c.in-Some.ensures.table.0) at c.in_ok-check_fields.ensures) (rw (c.next_id-id.ensures.id, c.ranges-2.ensures, c.in-Some.ensures.table.0) at c.in_err-check_values.ensures))
