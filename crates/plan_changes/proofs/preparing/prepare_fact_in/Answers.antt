use Rattle.std.proofs.Common.{◌≡◌, ◌∙◌, sym, ap, subst}
use Rattle.std.proofs.lemmas.Option.{get_or_from_slice_get}
use Rattle.plan_facts.specs.Schema.{HasFewMembers}
use Rattle.plan_facts.specs.declared.record.ClassDef.{ClassDef}
use Rattle.plan_changes.specs.Named.{no_def}
use Rattle.plan_changes.specs.Performed.{MayPerformFact}
use Rattle.plan_changes.specs.Ready.{ReadyView, ready_fact}
use Rattle.plan_changes.proofs.Prepared.{fact_may}
use Rattle.plan_changes.proofs.preparing.prepare_fact_in.Goals as goal

pub returns-clause-may : goal.returns-clause-may
returns-clause-may c =
    let schema = c.args.schema.now in
    let plan = c.args.plan.now in
    let change = c.args.change.now in
    let at = get_or_from_slice_get schema c.args.class c.in-Some.def.now no_def (sym c.in-Some.ensures.class) in
    let ready = c.in_ok-ready_fact.ensures.ready ∙ ap (λ (d : ClassDef). ready_fact plan c.args.class d change) (sym at) in
    let few = subst HasFewMembers (sym at) c.in-Some.ensures.members in
    λ is. subst (λ (r : ReadyView). MayPerformFact r plan) (sym ready) (fact_may schema plan c.args.class change is c.in_ok-ready_fact.ensures.sound c.requires few (sym c.in_ok-check_fact.ensures))
