use Rattle.std.specs.Prelude.{is_some}
use Rattle.plan_moves.specs.Edits.{applied}
use Rattle.plan_rules.specs.Totals.{whole_score}
use Rattle.std.proofs.Common.{◌≡◌, ◌∙◌, ◌≤◌, Option, None, Some, ℕ, ap, subst, sym}
use Rattle.std.specs.Option.{ForSome}
use Rattle.plan_facts.specs.Plan.{PlanView}
use Rattle.score_director.specs.declared.director.Attempt.{Attempt}
use Rattle.score_director.specs.Worth.{IsNetFor, KnowsBefore}
use Rattle.score_director.proofs.Led.{back_for, classes_stay}
use Rattle.score_director.proofs.Turned.{applied_sound}
use Rattle.score_director.proofs.director.Director.undo.Goals as goal

pub invariant_of-self : goal.invariant_of-self
invariant_of-self g c =
    let m = g.B.Book.meaning in
    let d = c.self.inside in
    let back = c.in-Some.field-0.back in
    let is : d.attempt ≡ Some c.in-Some.field-0 = sym c.replace.ensures.value ∙ c.in-Some.is in
    let knows : KnowsBefore m d.rules d.weights d.plan d.net c.in-Some.field-0 = c.self.invariant.before c.in-Some.field-0 is in
    let after : c.apply.new.plan ≡ applied d.plan back = c.apply.ensures in
    let network = c.self.invariant.network in
    record {
      each = c.self.invariant.each;
      network =
          subst (λ (p : PlanView). IsNetFor m d.rules p c.rollback.new.self) (sym after)
          (back_for m d.rules (applied d.plan back) d.net c.rollback.new.self c.rollback.ensures (applied_sound d.plan back network.sound knows.legal) network.own network.room
          (subst (λ (n : ℕ). n ≤ d.net.classes) (sym (classes_stay d.plan back)) network.classes) knows.stood);
      worth = knows.before ∙ ap (whole_score m d.rules d.weights) (sym after);
      opened = ap (λ heads. heads.is_open) c.rollback.ensures.heads ∙ ap (λ (a : Option Attempt). is_some a) (sym c.replace.ensures.after);
      before = subst (λ (a : Option Attempt). ForSome a (KnowsBefore m d.rules d.weights c.apply.new.plan c.rollback.new.self)) (sym c.replace.ensures.after) (λ x none. absurd (none_some x none));
    }
  where
    none_some : (x : Attempt) → None ≡ Some x → ⊥
    none_some x e = cc
