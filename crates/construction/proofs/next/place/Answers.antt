use Rattle.std.proofs.Common.{◌≡◌, ◌∙◌, ◌+◌, None, Result, Ok, Err, drop, get_or, sym, ap}
use Rattle.std.specs.Option.{option_map}
use Rattle.std.specs.Prelude.{OnErr}
use Rattle.plan_moves.specs.Entities.{values_of}
use Rattle.plan_search.specs.Placing.{best_edit, placed_in, placing_of}
use Rattle.score_director.specs.View.{DirectorView}
use Rattle.construction.specs.declared.best.Best.{Best}
use Rattle.construction.specs.Placed.{PlacesFront, placed_as}
use Rattle.construction.specs.Standing.{played, score_under}
use Rattle.construction.proofs.PlacingLaws.{ends_stuck, goes_on, places_more, waits_now, waits_then, with_front}
use Rattle.construction.proofs.Standing.{best_as_first, plan_then, rests_then, score_still, sizes_then}
use Rattle.construction.proofs.next.place.Goals as goal

on_err : {T E : Type 0} (r : Result T E) (P : Type 0) → P → OnErr r P
on_err (Ok v) P p = tt
on_err (Err e) P p = p

pub best_of-requires-clause-waits : goal.best_of-requires-clause-waits
best_of-requires-clause-waits g c κs within =
    waits_now c.loop-entity.director.plan c.args.todo.now c.loop-entity.entity-index _ c.loop-entity-test.true c.loop-entity.invariant.awaits

pub returns-in_default-clause-course : goal.returns-in_default-clause-course
returns-in_default-clause-course g c =
    let m = g.B.Book.meaning in
    let first = c.args.director.now in
    let here = c.loop-entity.director in
    let k = c.loop-entity.entity-index in
    let entity = get_or c.args.todo.now k (record { class = 0; id = 0 }) in
    let none : best_edit (score_under m first) here.plan entity ≡ None =
    ap (λ score. best_edit score here.plan entity) (sym (score_still m first here c.loop-entity.invariant.rest))
    ∙ sym c.in_ok-best.ensures.edit ∙ ap (option_map (λ (b : Best). b.edit)) c.in_default.is in
    ends_stuck (score_under m first) here.plan c.best_of.new.director.plan c.args.todo.now k (record { class = 0; id = 0 }) c.loop-entity.placed _
    c.loop-entity-test.true (ap (λ (d : DirectorView). d.plan) c.best_of.ensures.same) none c.loop-entity.invariant.course

pub returns-in_err-placed_at-clause-memory : goal.returns-in_err-placed_at-clause-memory
returns-in_err-placed_at-clause-memory g c =
    let m = g.B.Book.meaning in
    let first = c.args.director.now in
    let here = c.loop-entity.director in
    let next = c.play.new.director in
    let k = c.loop-entity.entity-index in
    let best = best_as_first m first here _ c.in_ok-best.field-0 c.in-Some.best c.loop-entity.invariant.rest c.in-Some.is c.in_ok-best.ensures.edit in
    let is = plan_then here c.best_of.new.director next c.in-Some.best.edit c.best_of.ensures.same c.in_ok-score.ensures.ok in
    let front : PlacesFront (score_under m first) first.plan c.args.todo.now next.plan =
    (k + 1, places_more (score_under m first) first.plan here.plan next.plan c.args.todo.now k _ c.in-Some.best.edit c.loop-entity-test.true c.loop-entity.invariant.front best is) in
    on_err _ _ front

pub returns-in_err-placed_at-clause-sizes : goal.returns-in_err-placed_at-clause-sizes
returns-in_err-placed_at-clause-sizes g c =
    sizes_then c.args.director.now c.loop-entity.director c.best_of.new.director c.play.new.director c.in-Some.best.edit c.loop-entity.invariant.sizes c.best_of.ensures.same c.in_ok-score.ensures.ok

pub returns-in_err-push-clause-memory : goal.returns-in_err-push-clause-memory
returns-in_err-push-clause-memory g c =
    let m = g.B.Book.meaning in
    let first = c.args.director.now in
    let here = c.loop-entity.director in
    let next = c.play.new.director in
    let k = c.loop-entity.entity-index in
    let best = best_as_first m first here _ c.in_ok-best.field-0 c.in-Some.best c.loop-entity.invariant.rest c.in-Some.is c.in_ok-best.ensures.edit in
    let is = plan_then here c.best_of.new.director next c.in-Some.best.edit c.best_of.ensures.same c.in_ok-score.ensures.ok in
    let front : PlacesFront (score_under m first) first.plan c.args.todo.now next.plan =
    (k + 1, places_more (score_under m first) first.plan here.plan next.plan c.args.todo.now k _ c.in-Some.best.edit c.loop-entity-test.true c.loop-entity.invariant.front best is) in
    on_err _ _ front

pub returns-in_err-push-clause-sizes : goal.returns-in_err-push-clause-sizes
returns-in_err-push-clause-sizes g c =
    sizes_then c.args.director.now c.loop-entity.director c.best_of.new.director c.play.new.director c.in-Some.best.edit c.loop-entity.invariant.sizes c.best_of.ensures.same c.in_ok-score.ensures.ok

pub loop-entity-preserved : goal.loop-entity-preserved
loop-entity-preserved g c =
    let m = g.B.Book.meaning in
    let first = c.args.director.now in
    let here = c.loop-entity.director in
    let mid = c.best_of.new.director in
    let next = c.play.new.director in
    let sets = c.in-Some.best.edit in
    let score = score_under m first in
    let todo = c.args.todo.now in
    let k = c.loop-entity.entity-index in
    let entity = get_or todo k (record { class = 0; id = 0 }) in
    let best = best_as_first m first here entity c.in_ok-best.field-0 c.in-Some.best c.loop-entity.invariant.rest c.in-Some.is c.in_ok-best.ensures.edit in
    let is = plan_then here mid next sets c.best_of.ensures.same c.in_ok-score.ensures.ok in
    let rest = rests_then first here next sets c.loop-entity.invariant.rest (c.in_ok-score.ensures.ok ∙ ap (λ (d : DirectorView). played d sets) c.best_of.ensures.same) in
    let worth = c.in_ok-score.ensures.score ∙ (λ i. score_still m first next rest i next.plan) in
    let one : c.in_ok-placed_at.field-0 ≡ placed_in score next.plan entity =
    c.in_ok-placed_at.ensures ∙ (λ i. placed_as (values_of (c.plan.ensures i) entity) entity (worth i)) in
    record {
      course = ap (λ placed. with_front placed (placing_of score next.plan (drop (k + 1) todo))) c.in_ok-push.ensures.ok
          ∙ goes_on score here.plan next.plan todo k _ sets c.loop-entity.placed c.in_ok-placed_at.field-0 _ c.loop-entity-test.true best is one c.loop-entity.invariant.course;
      front = places_more score first.plan here.plan next.plan todo k _ sets c.loop-entity-test.true c.loop-entity.invariant.front best is;
      awaits = waits_then score here.plan next.plan todo k _ sets c.loop-entity-test.true c.loop-entity.invariant.awaits best is;
      rest = rest;
      sizes = sizes_then first here mid next sets c.loop-entity.invariant.sizes c.best_of.ensures.same c.in_ok-score.ensures.ok;
    }
