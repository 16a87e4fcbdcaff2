use Rattle.std.proofs.Common.{◌≡◌, ◌∙◌, ℕ, Some, None, cond, IfErr, OnOk, sym, ap, subst}
use Rattle.plan_changes.specs.Change.{ChangeView}
use Rattle.plan_changes.specs.Deeds.{is_weight}
use Rattle.plan_changes.specs.declared.change.Deed.{Deed}
use Rattle.plan_changes.specs.declared.fault.ChangeFault.TheVariants as ChangeFault
use Rattle.plan_facts.specs.Refusal.{IsRefusal}
use Rattle.score_director.specs.View.{DirectorView}
use Rattle.score_director.proofs.Readied.{grown_fault, weighed_fault}
use Rattle.score_director.proofs.director.Director.check_change.Goals as goal

same_inside : (a b : ℕ) → Some a ≡ Some b → a ≡ b
same_inside a b e = cc

pub returns-in-Add-clause-ok : goal.returns-in-Add-clause-ok
returns-in-Add-clause-ok g c =
    λ names. subst (λ found. OnOk c.check_grown.result (found ≡ None))
    (grown_fault c.args.rules.now.caps c.args.self.now names c.args.ready.now c.args.rules.now.defs c.self.inside.weights c.self.inside.plan c.class.result (c.requires.deed ∙ sym (ap (λ (v : ChangeView). v.deed) c.change.view_is) ∙ c.in-Add.is) c.requires.own (ap (λ (v : DirectorView). v.weights) c.self.view_is) (ap (λ (v : DirectorView). v.plan) c.self.view_is) c.class.ensures)
    c.check_grown.ensures.ok

pub returns-in-Add-clause-err : goal.returns-in-Add-clause-err
returns-in-Add-clause-err g c =
    λ names. subst (λ found. IfErr c.check_grown.result (IsRefusal ChangeFault.Memory found))
    (grown_fault c.args.rules.now.caps c.args.self.now names c.args.ready.now c.args.rules.now.defs c.self.inside.weights c.self.inside.plan c.class.result (c.requires.deed ∙ sym (ap (λ (v : ChangeView). v.deed) c.change.view_is) ∙ c.in-Add.is) c.requires.own (ap (λ (v : DirectorView). v.weights) c.self.view_is) (ap (λ (v : DirectorView). v.plan) c.self.view_is) c.class.ensures)
    c.check_grown.ensures.err

pub returns-in-Some-clause-ok : goal.returns-in-Some-clause-ok
returns-in-Some-clause-ok g c =
    let said = sym (ap (λ (v : ChangeView). v.deed) c.change.view_is) ∙ c.in-Weight.is in
    let is = c.requires.deed ∙ said in
    let there = same_inside c.in-Some.rule c.args.ready.now.rule (sym c.in-Some.is ∙ c.rule.ensures ∙ ap (λ (d : Deed). cond (is_weight d) (Some c.args.ready.now.rule) None) is) in
    let heavy = ap (λ (v : ChangeView). v.weight) c.change.view_is ∙ sym (c.requires.weight (ap is_weight said)) in
    λ names. subst (λ found. OnOk c.check_weight.result (found ≡ None))
    (weighed_fault c.args.rules.now.caps c.args.self.now names c.args.ready.now c.args.rules.now.defs c.self.inside.weights c.self.inside.plan c.in-Some.rule c.change.inside.weight is c.requires.own (ap (λ (v : DirectorView). v.weights) c.self.view_is) (ap (λ (v : DirectorView). v.plan) c.self.view_is) there heavy)
    c.check_weight.ensures.ok

pub returns-in-Some-clause-err : goal.returns-in-Some-clause-err
returns-in-Some-clause-err g c =
    let said = sym (ap (λ (v : ChangeView). v.deed) c.change.view_is) ∙ c.in-Weight.is in
    let is = c.requires.deed ∙ said in
    let there = same_inside c.in-Some.rule c.args.ready.now.rule (sym c.in-Some.is ∙ c.rule.ensures ∙ ap (λ (d : Deed). cond (is_weight d) (Some c.args.ready.now.rule) None) is) in
    let heavy = ap (λ (v : ChangeView). v.weight) c.change.view_is ∙ sym (c.requires.weight (ap is_weight said)) in
    λ names. subst (λ found. IfErr c.check_weight.result (IsRefusal ChangeFault.Memory found))
    (weighed_fault c.args.rules.now.caps c.args.self.now names c.args.ready.now c.args.rules.now.defs c.self.inside.weights c.self.inside.plan c.in-Some.rule c.change.inside.weight is c.requires.own (ap (λ (v : DirectorView). v.weights) c.self.view_is) (ap (λ (v : DirectorView). v.plan) c.self.view_is) there heavy)
    c.check_weight.ensures.err
