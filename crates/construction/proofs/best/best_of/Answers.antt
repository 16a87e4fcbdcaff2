use Rattle.std.proofs.Common.{◌∙◌, [], ap, subst, sym}
use Rattle.plan_facts.specs.Plan.{PlanView}
use Rattle.plan_moves.specs.Entities.{values_of}
use Rattle.plan_search.specs.Placing.{null_places}
use Rattle.construction.specs.Best.{MayGoOn, best_in}
use Rattle.construction.specs.Standing.{score_under}
use Rattle.construction.proofs.GoOnLaws.{go_on_first, waits_movable}
use Rattle.construction.proofs.Steps.{is_best_edit, edit_is}
use Rattle.construction.proofs.best.best_of.Goals as goal

pub consider_all-requires-clause-go_on : goal.consider_all-requires-clause-go_on
consider_all-requires-clause-go_on g c κs within =
    let plan = c.args.director.now.plan in
    let entity = c.args.entity in
    let vars = c.as_slice.ensures ∙ c.in_ok-vars.ensures.vars ∙ ap (λ (p : PlanView). null_places (values_of p entity)) c.plan.ensures in
    subst (λ sets. MayGoOn plan entity c.as_slice.result.now sets) (sym c.no_trials-trials.ensures.sets)
    (subst (λ vs. MayGoOn plan entity vs []) (sym vars) (go_on_first plan entity (waits_movable plan entity c.requires.waits)))

pub returns : goal.returns
returns g c =
    let seen = c.args.director.now in
    let entity = c.args.entity in
    let score = score_under g.B.Book.meaning seen in
    let vars = c.as_slice.ensures ∙ c.in_ok-vars.ensures.vars ∙ ap (λ (p : PlanView). null_places (values_of p entity)) c.plan.ensures in
    let best = is_best_edit score seen.plan entity c.as_slice.result.now c.no_trials-trials.result.sets (best_in c.no_trials-trials.result) (best_in c.consider_all.new.trials) c.best_found.result
    vars c.no_trials-trials.ensures.sets c.no_trials-trials.ensures.best c.best_found.ensures c.in_ok-consider_all.ensures.best in
    record {
      edit = edit_is score seen.plan entity c.best_found.result best;
      score = best.judged;
      legal = best.legal;
      same = c.consider_all.ensures.same;
    }
