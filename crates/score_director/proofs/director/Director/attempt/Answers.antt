use Rattle.std.proofs.Common.{◌≡◌, ◌∙◌, ◌≤◌, true, ℕ, List, None, Option, Some, ap, length, subst, sym}
use Rattle.std.specs.Prelude.{is_some}
use Rattle.plan_facts.specs.Plan.{PlanView, records_of}
use Rattle.plan_moves.specs.Edits.{applied, is_legal}
use Rattle.plan_rules.specs.declared.rule.RuleDef.{RuleDef}
use Rattle.plan_rules.specs.Range.{MayJudge, sizes_of}
use Rattle.plan_rules.specs.Totals.{whole_score}
use Rattle.score_director.specs.Net.{AreNetsOf}
use Rattle.score_director.specs.Standing.{StoodBefore}
use Rattle.score_director.proofs.Standing.{begun_before, kept_before}
use Rattle.score_director.specs.declared.director.Attempt.{Attempt}
use Rattle.score_director.specs.View.{DirectorView}
use Rattle.score_director.specs.Worth.{IsNetFor, KnowsBefore}
use Rattle.score_director.proofs.Led.{back_for, begun_for, edit_turns, none_before}
use Rattle.score_director.proofs.Worth.{sizes_of-applied}
use Rattle.score_director.proofs.director.Director.attempt.Goals as goal

pub turned-requires-clause-judges : goal.turned-requires-clause-judges
turned-requires-clause-judges g c κs within =
    let rules = c.args.rules.now in
    let seen = c.args.self.now in
    let plan = c.apply.new.plan in
    let sizes : sizes_of plan ≡ sizes_of seen.plan = ap sizes_of c.apply.ensures ∙ sizes_of-applied c.self.inside.plan c.args.edit.now ∙ ap (λ (s : DirectorView). sizes_of s.plan) c.self.view_is in
    let weights : c.as_slice-2.result.now ≡ seen.weights = c.as_slice-2.ensures ∙ ap (λ (s : DirectorView). s.weights) c.self.view_is in
    let P : List ℕ → Type 0 = λ ns. MayJudge rules.defs rules.caps seen.weights ns in
    let Q : List ℕ → Type 0 = λ ws. MayJudge rules.defs rules.caps ws (sizes_of plan) in
    (c.requires.judges.0, subst Q (sym weights) (subst P (sym sizes) c.requires.judges.1))

pub turned-requires-clause-from : goal.turned-requires-clause-from
turned-requires-clause-from g c κs within =
    let m = g.B.Book.meaning in
    let d = c.self.inside in
    let own : d.rules ≡ c.args.rules.now.defs = ap (λ (s : DirectorView). s.rules) c.self.view_is ∙ sym c.requires.own in
    let network = begun_for m c.args.rules.now.defs d.plan d.net c.begin.new.self c.begin.ensures (subst (λ (rules : List RuleDef). IsNetFor m rules d.plan d.net) own c.self.invariant.network) in
    let legal : is_legal d.plan c.args.edit.now ≡ true = ap (λ (s : DirectorView). is_legal s.plan c.args.edit.now) c.self.view_is ∙ c.requires.legal in
    edit_turns m c.args.rules.now.defs d.plan c.apply.new.plan c.begin.new.self c.args.edit.now c.in_ok-keys.keys c.as_slice.result.now network legal
    c.in_ok-keys.ensures.touched c.in_ok-keys.ensures.order c.as_slice.ensures c.apply.ensures

pub invariant_of-self : goal.invariant_of-self
invariant_of-self g c =
    let m = g.B.Book.meaning in
    let d = c.self.inside in
    let back = c.in_ok-back.back in
    let own : c.args.rules.now.defs ≡ d.rules = c.requires.own ∙ sym (ap (λ (s : DirectorView). s.rules) c.self.view_is) in
    let restored : applied c.apply.new.plan back ≡ d.plan = ap (λ (p : PlanView). applied p back) c.apply.ensures ∙ c.in_ok-back.ensures.takes_back.restored in
    let before = begun_before m d.rules d.net c.begin.new.self (records_of d.plan) c.begin.ensures c.self.invariant.network.stands in
    let opened : c.begin.new.self.heads.is_open ≡ true = ap (λ heads. heads.is_open) c.begin.ensures.heads in
    let stood : StoodBefore m d.rules c.turned.new.net (records_of d.plan) = kept_before m d.rules c.begin.new.self c.turned.new.net (records_of d.plan) opened c.turned.ensures.keeps before in
    let score = whole_score m in
    record {
      each = c.self.invariant.each;
      network = subst (λ (rules : List RuleDef). IsNetFor m rules c.apply.new.plan c.turned.new.net) own c.in-Ok.ensures.network;
      worth =
          c.replace-before.ensures.after ∙ c.in-Ok.ensures.score
          ∙ ap (λ (rules : List RuleDef). score rules c.as_slice-2.result.now c.apply.new.plan) own
          ∙ ap (λ (weights : List ℕ). score d.rules weights c.apply.new.plan) c.as_slice-2.ensures;
      opened = c.turned.ensures.keeps.heads.opened ∙ opened;
      before = λ x is.
          let one : record { back = back; before = c.replace-before.result } ≡ x = (let e = is in cc) in
          let knows : KnowsBefore m d.rules d.weights c.apply.new.plan c.turned.new.net (record { back = back; before = c.replace-before.result }) = record {
            legal = subst (λ (p : PlanView). is_legal p back ≡ true) (sym c.apply.ensures) c.in_ok-back.ensures.takes_back.legal;
            before = c.replace-before.ensures.value ∙ c.self.invariant.worth ∙ ap (score d.rules d.weights) (sym restored);
            stood = subst (λ (p : PlanView). StoodBefore m d.rules c.turned.new.net (records_of p)) (sym restored) stood;
          } in
          subst (λ (a : Attempt). KnowsBefore m d.rules d.weights c.apply.new.plan c.turned.new.net a) one knows;
    }

pub invariant_of-self-in-Err-1 : goal.invariant_of-self-in-Err-1
invariant_of-self-in-Err-1 g c =
    let m = g.B.Book.meaning in
    let d = c.self.inside in
    let back = c.in_ok-back.back in
    let own : c.args.rules.now.defs ≡ d.rules = c.requires.own ∙ sym (ap (λ (s : DirectorView). s.rules) c.self.view_is) in
    let restored : c.apply-in-Err.new.plan ≡ d.plan = c.apply-in-Err.ensures ∙ ap (λ (p : PlanView). applied p back) c.apply.ensures ∙ c.in_ok-back.ensures.takes_back.restored in
    let network = c.self.invariant.network in
    let before = begun_before m d.rules d.net c.begin.new.self (records_of d.plan) c.begin.ensures network.stands in
    let opened : c.begin.new.self.heads.is_open ≡ true = ap (λ heads. heads.is_open) c.begin.ensures.heads in
    let stood : StoodBefore m d.rules c.turned.new.net (records_of d.plan) = kept_before m d.rules c.begin.new.self c.turned.new.net (records_of d.plan) opened c.turned.ensures.keeps before in
    let none : d.attempt ≡ None = none_before (λ a. applied d.plan a.back) d.attempt (ap (λ (s : DirectorView). s.base) c.self.view_is ∙ c.requires.rest) in
    let nets = subst (λ (rules : List RuleDef). AreNetsOf rules c.turned.new.net.rules) own c.turned.ensures.own in
    let classes = subst (λ (n : ℕ). length d.plan.classes ≤ n) (sym (c.turned.ensures.keeps.classes ∙ c.begin.ensures.classes)) network.classes in
    record {
      each = c.self.invariant.each;
      network =
          subst (λ (p : PlanView). IsNetFor m d.rules p c.rollback.new.self) (sym restored)
          (back_for m d.rules d.plan c.turned.new.net c.rollback.new.self c.rollback.ensures network.sound nets network.room classes stood);
      worth = c.self.invariant.worth ∙ ap (whole_score m d.rules d.weights) (sym restored);
      opened = ap (λ heads. heads.is_open) c.rollback.ensures.heads ∙ ap (λ (a : Option Attempt). is_some a) (sym none);
      before = λ x is. absurd (none_some x (sym none ∙ is));
    }
  where
    none_some : (x : Attempt) → None ≡ Some x → ⊥
    none_some x e = cc
