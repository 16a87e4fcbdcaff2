use Rattle.std.proofs.Common.{◌≡◌, ◌∙◌, ℕ, List, ap, refl, subst, sym}
use Rattle.plan_facts.specs.Plan.{PlanView}
use Rattle.plan_rules.specs.Range.{MayJudge, sizes_of}
use Rattle.plan_moves.specs.Edits.{applied}
use Rattle.score_director.specs.View.{DirectorView}
use Rattle.score_director.proofs.Worth.{sizes_of-applied}
use Rattle.plan_session.specs.WayBack.{IsWayBack}
use Rattle.plan_session.proofs.WayBack.{gone_back, may_go_back}
use Rattle.plan_session.proofs.best.lead_director.Goals as goal

pub edits-init : goal.edits-init
edits-init g c = record { some = c.requires.way; goes_on = λ best way. way; rules = refl; weights = refl; sizes = refl; rest = c.requires.rest }

pub keep_alone-requires-clause-judges : goal.keep_alone-requires-clause-judges
keep_alone-requires-clause-judges g c κs within =
    let rules = c.args.rules.now in
    let inv = c.edits.invariant in (
      c.requires.judges.0,
      subst (λ (weights : List ℕ). MayJudge rules.defs rules.caps weights (sizes_of c.edits.director.plan)) (sym inv.weights)
          (subst (λ (sizes : List ℕ). MayJudge rules.defs rules.caps c.args.director.now.weights sizes) (sym inv.sizes) c.requires.judges.1),
    )

pub keep_alone-requires-clause-own : goal.keep_alone-requires-clause-own
keep_alone-requires-clause-own g c κs within = c.requires.own ∙ sym c.edits.invariant.rules

pub keep_alone-requires-clause-rest : goal.keep_alone-requires-clause-rest
keep_alone-requires-clause-rest g c κs within = c.edits.invariant.rest

pub keep_alone-requires-clause-legal : goal.keep_alone-requires-clause-legal
keep_alone-requires-clause-legal g c κs within =
    let some = c.edits.invariant.some in
    may_go_back some.0 c.edits.director.plan c.edits.back.items c.pop.new.self.items c.in-Some.edit c.in-Some.ensures.items some.1

pub edits-preserved : goal.edits-preserved
edits-preserved g c =
    let inv = c.edits.invariant in
    let some = inv.some in
    let went = c.in_ok-keep_alone.ensures.ok in
    let applies : c.keep_alone.new.director.plan ≡ applied c.edits.director.plan c.in-Some.edit = ap (λ (d : DirectorView). d.plan) went in
    let gone : (best : PlanView) → IsWayBack best c.edits.back.items c.edits.director.plan → IsWayBack best c.pop.new.self.items c.keep_alone.new.director.plan =
    λ best. gone_back best c.edits.director.plan c.keep_alone.new.director.plan c.edits.back.items c.pop.new.self.items c.in-Some.edit c.in-Some.ensures.items applies in
    record {
      some = (some.0, gone some.0 some.1);
      goes_on = λ best way. gone best (inv.goes_on best way);
      rules = ap (λ (d : DirectorView). d.rules) went ∙ inv.rules;
      weights = ap (λ (d : DirectorView). d.weights) went ∙ inv.weights;
      sizes = ap sizes_of applies ∙ sizes_of-applied c.edits.director.plan c.in-Some.edit ∙ inv.sizes;
      rest = ap (λ (d : DirectorView). d.base) went;
    }
