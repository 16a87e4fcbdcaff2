use Rattle.std.proofs.Common.{arith, inr}
use Rattle.std.proofs.lemmas.Result.{err_from_is_err_and}
use Rattle.plan_facts.proofs.PlanMade.{plan_of_sound}
use Rattle.plan_facts.proofs.PlanChecked.{wrong_lists, too_many, records_refused, values_refused, no_fault}
use Rattle.plan_facts.proofs.listed.check_lists.Goals as goal

pub returns-then-lists-classes-clause-err : goal.returns-then-lists-classes-clause-err
returns-then-lists-classes-clause-err c = inr (wrong_lists c.args.schema.now c.args.lists.now (λ same. c.if-lists-classes.true (omega arith)))

pub returns-in_default-clause-err : goal.returns-in_default-clause-err
returns-in_default-clause-err c = inr (too_many c.args.schema.now c.args.lists.now (omega arith) c.in_default.ensures)

pub returns-in_err-ids-clause-err : goal.returns-in_err-ids-clause-err
returns-in_err-ids-clause-err c =
    let p = err_from_is_err_and c.from_residual.result c.from_residual.ensures.1 in
    rw (p.1, p.2) (records_refused c.args.schema.now c.args.lists.now c.in_err-ids.field-0.0 (omega arith) (let few = c.in-Some.ensures in omega arith) c.in_err-ids.ensures.err)

pub returns-in_err-check_all_values-clause-err : goal.returns-in_err-check_all_values-clause-err
returns-in_err-check_all_values-clause-err c =
    let p = err_from_is_err_and c.from_residual-in_err-check_all_values.result c.from_residual-in_err-check_all_values.ensures.1 in
    rw (p.1, p.2) (values_refused c.args.schema.now c.args.lists.now c.in_ok-ids.ids.classes.items c.in_err-check_all_values.field-0.0 (omega arith) (let few = c.in-Some.ensures in omega arith) c.in_ok-ids.ensures.ids c.in_ok-ids.ensures.ok c.in_err-check_all_values.ensures.err)

pub returns-clause-ok : goal.returns-clause-ok
returns-clause-ok c =
    no_fault c.args.schema.now c.args.lists.now c.in_ok-ids.ids.classes.items (omega arith) (let few = c.in-Some.ensures in omega arith) c.in_ok-ids.ensures.ids c.in_ok-ids.ensures.ok c.in_ok-check_all_values.ensures.ok

pub returns-clause-plan : goal.returns-clause-plan
returns-clause-plan c =
    let none = no_fault c.args.schema.now c.args.lists.now c.in_ok-ids.ids.classes.items (omega arith) (let few = c.in-Some.ensures in omega arith) c.in_ok-ids.ensures.ids c.in_ok-ids.ensures.ok c.in_ok-check_all_values.ensures.ok in
    plan_of_sound c.args.schema.now c.args.lists.now (omega arith) c.classes.ensures.faultless none
