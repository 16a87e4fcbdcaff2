use Rattle.std.proofs.Common.{◌≡◌, ◌∙◌, ◌<◌, ◌≤◌, ◌++◌, ◌∷◌, [], length, get_or, Some, sym, ap, subst, arith}
use Rattle.std.specs.Option.{option_map}
use Rattle.std.specs.Prelude.{slice_get}
use Rattle.std.proofs.lemmas.List.{length-map}
use Rattle.std.proofs.lemmas.Option.{slice_get-map}
use Rattle.plan_facts.specs.Plan.{PlanView, class_of}
use Rattle.plan_moves.specs.Entities.{choices_of}
use Rattle.plan_search.specs.Placing.{choice_set, choice_sets}
use Rattle.score_director.specs.View.{DirectorView}
use Rattle.construction.specs.Best.{FindsBest, MayGoOn, best_in, completions}
use Rattle.construction.specs.Standing.{score_under}
use Rattle.construction.proofs.GoOnLaws.{held_there}
use Rattle.construction.proofs.Steps.{finds_more, finds_all, goes_on, rest_of, popped}
use Rattle.construction.proofs.best.+consider_all.Goals as goal

pub choice_count-place-end-requires : goal.choice_count-place-end-requires
choice_count-place-end-requires g t c =
    let seen = c.args.director.now in
    subst (λ p. get_or c.args.vars.now 0 0 < length (class_of p c.args.entity.class).ranges) (sym c.plan.ensures)
    (held_there seen.plan c.args.entity.class c.args.entity.id _ _ c.requires.plan (c.requires.go_on.there 0 0 c.in-len1-up.len_at_least))

pub choice_at-requires-clause-there : goal.choice_at-requires-clause-there
choice_at-requires-clause-there g t c =
    let seen = c.args.director.now in
    let same = c.plan-in-choices.ensures ∙ ap (λ (d : DirectorView). d.plan) c.choices.invariant.same in
    subst (λ p. get_or c.args.vars.now 0 0 < length (class_of p c.args.entity.class).ranges) (sym same)
    (held_there seen.plan c.args.entity.class c.args.entity.id _ _ c.requires.plan (c.requires.go_on.there 0 0 c.in-len1-up.len_at_least))

pub consider_all-requires-clause-go_on : goal.consider_all-requires-clause-go_on
consider_all-requires-clause-go_on g t c κs within =
    let vars = c.args.vars.now in
    let seen = c.args.director.now in
    let entity = c.args.entity in
    let sets = c.args.trials.now.sets in
    let choice = choice_set entity (get_or vars 0 0) c.choice_at.result in
    let same = c.plan-in-choices.ensures ∙ ap (λ (d : DirectorView). d.plan) c.choices.invariant.same in
    let at = subst (λ (p : PlanView). slice_get (choices_of p entity.class (get_or vars 0 0)) c.choices.place ≡ Some c.choice_at.result) same c.choice_at.ensures in
    let pushed : c.push.new.self ≡ sets ++ choice ∷ [] = c.in_ok-push.ensures.ok ∙ ap (λ before. before ++ choice ∷ []) c.choices.invariant.kept in
    subst (λ (d : DirectorView). MayGoOn d.plan entity (rest_of vars) c.push.new.self) (sym c.choices.invariant.same)
    (goes_on seen.plan entity vars sets c.push.new.self c.choice_at.result c.choices.place c.requires.plan c.in-len1-up.len_at_least c.requires.go_on at pushed)

pub choices-preserved : goal.choices-preserved
choices-preserved g t c =
    let vars = c.args.vars.now in
    let seen = c.args.director.now in
    let entity = c.args.entity in
    let sets = c.args.trials.now.sets in
    let score = score_under g.B.Book.meaning seen in
    let mid = c.push.new.self in
    let var = get_or vars 0 0 in
    let choice = choice_set entity var c.choice_at.result in
    let same = c.plan-in-choices.ensures ∙ ap (λ (d : DirectorView). d.plan) c.choices.invariant.same in
    let at = subst (λ (p : PlanView). slice_get (choices_of p entity.class var) c.choices.place ≡ Some c.choice_at.result) same c.choice_at.ensures in
    let set_at : slice_get (choice_sets seen.plan entity var) c.choices.place ≡ Some choice =
    slice_get-map (choice_set entity var) (choices_of seen.plan entity.class var) c.choices.place ∙ ap (option_map (choice_set entity var)) at in
    let pushed : mid ≡ sets ++ choice ∷ [] = c.in_ok-push.ensures.ok ∙ ap (λ before. before ++ choice ∷ []) c.choices.invariant.kept in
    let before = best_in c.choices.trials in
    let after = best_in c.consider_all.new.trials in
    let more = subst (λ (d : DirectorView). FindsBest (score_under g.B.Book.meaning d) d.plan before after (completions d.plan entity (rest_of vars) mid)) c.choices.invariant.same c.in_ok-consider_all.ensures.best in
    record {
      best = finds_more score seen.plan entity vars sets mid choice c.choices.place (best_in c.args.trials.now) before after pushed set_at c.choices.invariant.best more;
      same = c.consider_all.ensures.same ∙ c.choices.invariant.same;
      kept = popped c.consider_all.new.trials.sets c.pop.new.self sets choice c.pop.result (c.in_ok-consider_all.ensures.kept ∙ pushed) c.pop.ensures.last c.pop.ensures.none;
    }

pub returns-clause-best : goal.returns-clause-best
returns-clause-best g t c =
    let vars = c.args.vars.now in
    let seen = c.args.director.now in
    let entity = c.args.entity in
    let var = get_or vars 0 0 in
    let long = length-map (choices_of seen.plan entity.class var) (choice_set entity var) in
    let count = c.choice_count-place-end.ensures.count ∙ ap (λ (p : PlanView). length (choices_of p entity.class var)) c.plan.ensures in
    let past : length (choice_sets seen.plan entity var) ≤ c.choices.place = omega (arith, long, count) in
    finds_all (score_under g.B.Book.meaning seen) seen.plan entity vars c.args.trials.now.sets c.choices.place (best_in c.args.trials.now) (best_in c.choices.trials)
    c.in-len1-up.len_at_least past c.choices.invariant.best
