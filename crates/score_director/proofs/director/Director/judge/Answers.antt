use Rattle.std.proofs.Common.{◌≡◌, ◌∙◌, true, ℕ, List, ap, subst, sym}
use Rattle.plan_moves.specs.Edits.{is_legal}
use Rattle.plan_moves.proofs.Shape.{both_left}
use Rattle.plan_rules.specs.declared.rule.RuleDef.{RuleDef}
use Rattle.plan_rules.specs.Range.{MayJudge, sizes_of}
use Rattle.score_director.specs.View.{DirectorView}
use Rattle.score_director.specs.Worth.{IsNetFor}
use Rattle.score_director.proofs.Led.{edit_turns}
use Rattle.score_director.proofs.Worth.{sizes_of-applied}
use Rattle.score_director.proofs.director.Director.judge.Goals as goal

pub foreseen-score-requires-clause-judges : goal.foreseen-score-requires-clause-judges
foreseen-score-requires-clause-judges g c κs within =
    let rules = c.args.rules.now in
    let seen = c.args.self.now in
    let plan = c.apply.new.plan in
    let sizes : sizes_of plan ≡ sizes_of seen.plan = ap sizes_of c.apply.ensures ∙ sizes_of-applied c.self.inside.plan c.args.edit.now ∙ ap (λ (s : DirectorView). sizes_of s.plan) c.self.view_is in
    let weights : c.as_slice-2.result.now ≡ seen.weights = c.as_slice-2.ensures ∙ ap (λ (s : DirectorView). s.weights) c.self.view_is in
    let P : List ℕ → Type 0 = λ ns. MayJudge rules.defs rules.caps seen.weights ns in
    let Q : List ℕ → Type 0 = λ ws. MayJudge rules.defs rules.caps ws (sizes_of plan) in
    (c.requires.judges.0, subst Q (sym weights) (subst P (sym sizes) c.requires.judges.1))

pub foreseen-score-requires-clause-from : goal.foreseen-score-requires-clause-from
foreseen-score-requires-clause-from g c κs within =
    let m = g.B.Book.meaning in
    let d = c.self.inside in
    let own : d.rules ≡ c.args.rules.now.defs = ap (λ (s : DirectorView). s.rules) c.self.view_is ∙ sym c.requires.own in
    let network = subst (λ (rules : List RuleDef). IsNetFor m rules d.plan d.net) own c.self.invariant.network in
    let legal : is_legal d.plan c.args.edit.now ≡ true = both_left _ _ (sym c.doable.ensures ∙ c.if-not-doable.false) in
    edit_turns m c.args.rules.now.defs d.plan c.apply.new.plan d.net c.args.edit.now c.in_ok-keys.keys c.as_slice.result.now network legal
    c.in_ok-keys.ensures.touched c.in_ok-keys.ensures.order c.as_slice.ensures c.apply.ensures
