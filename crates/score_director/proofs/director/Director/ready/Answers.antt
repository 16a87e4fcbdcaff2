use Rattle.std.proofs.Common.{◌≡◌, ◌∙◌, List, ℕ, length, sym, ap, subst, arith}
use Rattle.std.proofs.lemmas.List.{length-map}
use Rattle.plan_changes.specs.Fits.{IsOfSchema}
use Rattle.plan_changes.specs.Performed.{MayPerform}
use Rattle.plan_changes.specs.Ready.{ReadyView, ready_of}
use Rattle.plan_changes.specs.Refused.{change_fault}
use Rattle.plan_changes.specs.declared.fault.ChangeFault.TheVariants as ChangeFault
use Rattle.plan_facts.specs.Plan.{PlanView}
use Rattle.plan_facts.specs.Refusal.{IsRefusal}
use Rattle.plan_rules.specs.declared.rule.RuleDef.{RuleDef}
use Rattle.score_director.specs.Refused.{names_of, ready_for, widening_fault}
use Rattle.score_director.specs.View.{DirectorView}
use Rattle.score_director.proofs.Readied.{neither, ready_deed, ready_judges, ready_weight, refused_next}
use Rattle.score_director.proofs.director.Director.ready.Goals as goal

pub check_change-requires-clause-deed : goal.check_change-requires-clause-deed
check_change-requires-clause-deed g c κs within =
    ap (λ (r : ReadyView). r.deed) c.in_ok-ready.ensures.ready ∙ ready_deed c.args.schema.now c.self.inside.plan c.names.result.now c.args.change.now

pub check_change-requires-clause-weight : goal.check_change-requires-clause-weight
check_change-requires-clause-weight g c κs within =
    λ is. ap (λ (r : ReadyView). r.weight) c.in_ok-ready.ensures.ready ∙ ready_weight c.args.schema.now c.self.inside.plan c.names.result.now c.args.change.now is

pub returns-in-Err-clause-err : goal.returns-in-Err-clause-err
returns-in-Err-clause-err g c =
    let same = ap (λ (v : DirectorView). v.plan) c.self.view_is in
    let named = c.names.ensures ∙ ap names_of c.requires.own in
    let is = c.in_ok-ready.ensures.ready ∙ (λ i. ready_of c.args.schema.now (same i) (named i) c.args.change.now) in
    let none = (λ i. change_fault c.args.schema.now (sym same i) (sym named i) c.args.change.now) ∙ c.in_ok-ready.ensures.ok in
    let found = widening_fault c.args.rules.now.caps c.args.self.now c.args.names.now in
    refused_next ChangeFault.Memory (change_fault c.args.schema.now c.args.self.now.plan (names_of c.args.self.now.rules) c.args.change.now) (found (ready_for c.args.schema.now c.args.self.now c.args.change.now)) c.in-Err.fault none
    (subst (λ (r : ReadyView). IsRefusal ChangeFault.Memory (found r) c.in-Err.fault) is (c.in-Err.ensures.err c.args.names.now))

pub returns-in-Ok-clause-ok : goal.returns-in-Ok-clause-ok
returns-in-Ok-clause-ok g c =
    let same = ap (λ (v : DirectorView). v.plan) c.self.view_is in
    let named = c.names.ensures ∙ ap names_of c.requires.own in
    let is = c.in_ok-ready.ensures.ready ∙ (λ i. ready_of c.args.schema.now (same i) (named i) c.args.change.now) in
    let none = (λ i. change_fault c.args.schema.now (sym same i) (sym named i) c.args.change.now) ∙ c.in_ok-ready.ensures.ok in
    let found = widening_fault c.args.rules.now.caps c.args.self.now c.args.names.now in
    neither (change_fault c.args.schema.now c.args.self.now.plan (names_of c.args.self.now.rules) c.args.change.now) (found (ready_for c.args.schema.now c.args.self.now c.args.change.now)) none
    (ap found (sym is) ∙ c.in-Ok.ensures.ok c.args.names.now)

pub returns-in-Ok-clause-judges : goal.returns-in-Ok-clause-judges
returns-in-Ok-clause-judges g c =
    let same = ap (λ (v : DirectorView). v.plan) c.self.view_is in
    let named = ap (λ (names : List (List ℕ)). length names) (c.names.ensures ∙ ap names_of c.requires.own) in
    let many = length-map c.args.self.now.rules (λ (rule : RuleDef). rule.name) in
    let each = subst (λ (v : DirectorView). length v.weights ≡ length v.rules) c.self.view_is c.self.invariant.each in
    let count : length c.names.result.now ≡ length c.args.self.now.weights = omega (arith, named, many, each) in
    let may = c.in_ok-ready.ensures.may (subst (IsOfSchema c.args.schema.now) (sym same) c.requires.schema) in
    let here = subst (λ n. MayPerform c.in_ok-ready.ready c.args.self.now.plan n) count (subst (λ (p : PlanView). MayPerform c.in_ok-ready.ready p (length c.names.result.now)) same may) in
    λ judges. (judges.0, ready_judges c.args.rules.now.caps c.args.self.now c.args.names.now c.in_ok-ready.ready c.args.rules.now.defs c.requires.own here c.in_ok-ready.ensures.weight (c.in-Ok.ensures.ok c.args.names.now) judges.1)
