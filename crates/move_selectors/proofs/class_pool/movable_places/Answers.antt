use Rattle.std.proofs.Common.{◌≡◌, ◌∙◌, ◌+◌, ◌<◌, ◌++◌, ◌∷◌, [], ℕ, Bool, not, true, false, cond, append-nil, List, map, Vec, Global, length, ap, sym, get_or, arith}
use Rattle.std.proofs.lemmas.List.{take_all}
use Rattle.std.proofs.lemmas.List.FromFn.{length-enumerate_from}
use Rattle.std.specs.List.{enumerate_from, filter}
use Rattle.plan_facts.specs.declared.record.Raw.{Raw}
use Rattle.plan_moves.specs.Entities.{is_movable}
use Rattle.move_selectors.proofs.Placed.{places_upto, places_more}
use Rattle.move_selectors.proofs.class_pool.movable_places.Goals as goal
use Rattle.move_selectors.proofs.class_pool.movable_places.Goals.{then-not-raw+in_ok-push, else-not-raw}

-- the places once there is one more fact, which is pinned or not
next : (facts : List Raw) (at : ℕ) (raw : Raw) (pinned : Bool) → at < length facts → raw ≡ get_or facts at raw → raw.pinned ≡ pinned → places_upto facts (at + 1) ≡ places_upto facts at ++ cond (not pinned) (at ∷ []) []
next facts at raw pinned within here is =
    places_more facts at raw within
    ∙ ap (λ (r : Raw). places_upto facts at ++ cond (is_movable r) (at ∷ []) []) (sym here)
    ∙ ap (λ (b : Bool). places_upto facts at ++ cond (not b) (at ∷ []) []) is

pub loop-place-preserved : goal.loop-place-preserved
loop-place-preserved c =
    let facts : List Raw = c.args.facts.now in
    let at : ℕ = c.loop-place.place in
    elim c.if-not-raw.branch [
      | then-not-raw+in_ok-push w ↦
          ap (λ (v : Vec ℕ Global). v.items) w.places-is
          ∙ w.in_ok-push.ensures.items
          ∙ ap (λ (places : List ℕ). places ++ at ∷ []) c.loop-place.invariant
          ∙ sym (next facts at c.index-facts-place.result false c.loop-place-test.true c.index-facts-place.is w.if-not-raw.true)
      | else-not-raw w ↦
          ap (λ (v : Vec ℕ Global). v.items) w.places-is
          ∙ c.loop-place.invariant
          ∙ sym (next facts at c.index-facts-place.result true c.loop-place-test.true c.index-facts-place.is w.if-not-raw.false ∙ append-nil (places_upto facts at))
    ]

pub returns : goal.returns
returns c =
    let long = length-enumerate_from 0 c.args.facts.now in
    c.loop-place.invariant
    ∙ ap (λ (all : List (ℕ × Raw)). map (λ (one : ℕ × Raw). one.0) (filter (λ (one : ℕ × Raw). is_movable one.1) all)) (take_all c.loop-place.place (enumerate_from 0 c.args.facts.now) (omega arith))
