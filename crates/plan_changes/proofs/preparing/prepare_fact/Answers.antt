use Rattle.std.proofs.Common.{◌∙◌, Some, IfErr, ap, subst}
use Rattle.std.specs.Option.{option_map_or}
use Rattle.plan_facts.specs.Refusal.{IsRefusal}
use Rattle.plan_changes.specs.Change.{ChangeView}
use Rattle.plan_changes.specs.Named.{class_named}
use Rattle.plan_changes.specs.Refused.{fact_fault_in}
use Rattle.plan_changes.specs.declared.fault.ChangeFault.TheVariants as ChangeFault
use Rattle.plan_changes.proofs.preparing.prepare_fact.Goals as goal

pub returns-in-Some-clause-err : goal.returns-in-Some-clause-err
returns-in-Some-clause-err c =
    let schema = c.args.schema.now in
    let plan = c.args.plan.now in
    let change = c.args.change.now in
    let found = c.in-Some.ensures.number ∙ ap (class_named schema) (c.as_slice.ensures ∙ ap (λ (v : ChangeView). v.class) c.change.view_is) in
    let same = ap (λ o. option_map_or (λ n. fact_fault_in schema plan n change) o (Some ChangeFault.UnknownClass)) found in
    subst (λ o. IfErr c.prepare_fact_in.result (IsRefusal ChangeFault.Memory o)) same c.prepare_fact_in.ensures.err
