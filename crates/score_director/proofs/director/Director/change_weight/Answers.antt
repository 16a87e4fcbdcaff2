use Rattle.std.proofs.Common.{◌≡◌, ◌∙◌, OnOk, sym, ap, subst}
use Rattle.plan_changes.specs.Performed.{plan_after, weights_after}
use Rattle.score_director.specs.View.{DirectorView, at_rest}
use Rattle.score_director.proofs.Reweighed.{weighed_plan}
use Rattle.score_director.proofs.director.Director.change_weight.Goals as goal

pub returns-clause-ok : goal.returns-clause-ok
returns-clause-ok g c =
    let ready = c.args.ready.now in
    let names = c.args.names.now in
    let seen = c.args.self.now in
    let rules : c.self.inside.rules ≡ seen.rules = ap (λ (s : DirectorView). s.rules) c.self.view_is in
    let weights : c.in_ok-weights.weights ≡ weights_after ready seen.weights = c.in_ok-weights.ensures.weights ∙ ap (λ (s : DirectorView). weights_after ready s.weights) c.self.view_is in
    let plan : c.weights_changed.new.plan ≡ plan_after ready names seen.plan = c.weights_changed.ensures.plan ∙ ap (λ (s : DirectorView). s.plan) c.self.view_is ∙ sym (weighed_plan ready names seen.plan c.requires.deed) in
    let same : at_rest c.self.inside.rules c.in_ok-weights.weights c.weights_changed.new.plan ≡ at_rest seen.rules (weights_after ready seen.weights) (plan_after ready names seen.plan) = λ i. at_rest (rules i) (weights i) (plan i) in
    subst (λ (v : DirectorView). OnOk c.reweigh.result (c.reweigh.new.self ≡ v)) same c.reweigh.ensures.ok
