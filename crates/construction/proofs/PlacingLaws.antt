-- A placing goes on entity by entity.
use Rattle.std.proofs.Common.{◌≡◌, ◌∙◌, ◌<◌, ◌≤◌, ◌+◌, ℕ, true, Option, Some, None, List, [], ◌∷◌, ◌++◌, length, get_or, slice_get, drop, take, refl, sym, ap, subst, arith, add-one, drop-cons, append_assoc}
use Rattle.std.specs.Option.{ForSome}
use Rattle.std.proofs.lemmas.List.{append-nil, drop_all, take_more}
use Rattle.std.proofs.lemmas.Option.{get_or_from_slice_get, slice_get_within}
use Rattle.plan_scores.specs.declared.plan_score.PlanScore.{PlanScore}
use Rattle.plan_facts.specs.Plan.{PlanView}
use Rattle.plan_moves.specs.declared.edit.Set.{Set}
use Rattle.plan_moves.specs.declared.edit.Touch.{Touch}
use Rattle.plan_moves.specs.Edits.{applied}
use Rattle.plan_search.specs.declared.placed.Placed.{Placed}
use Rattle.plan_search.specs.Placing.{Placing, before, best_edit, placed_in, placing_of}
use Rattle.plan_search.specs.Todo.{is_to_place}
use Rattle.plan_search.specs.TodoLaws.{AwaitPlacing}
use Rattle.plan_search.proofs.Placings.{placing_of-append}
use Rattle.plan_search.proofs.RestLaws.{rest_awaits}
use Rattle.construction.specs.Placed.{PlacesFirst}

-- what was placed, before the rest of a placing
abbrev pub with_front : List Placed → Placing → Placing
with_front placed rest = record { placed = placed ++ rest.placed; stuck = rest.stuck; plan = rest.plan }

-- where a placing is stuck at once
abbrev pub stuck_at : PlanView → Touch → Placing
stuck_at plan entity = record { placed = []; stuck = Some entity; plan = plan }

-- a placing whose first entity has this best edit, or none
abbrev placing_with : (PlanView → PlanScore) → PlanView → Touch → List Touch → Option (List Set) → Placing
placing_with score plan entity rest edit = elim edit [
  | None ↦ stuck_at plan entity
  | Some sets ↦ before (placed_in score (applied plan sets) entity) (placing_of score (applied plan sets) rest)
]

-- a placing whose first entity is placed
placing_of-placed : (score : PlanView → PlanScore) (plan : PlanView) (entity : Touch) (rest : List Touch) (sets : List Set) → best_edit score plan entity ≡ Some sets
    → placing_of score plan (entity ∷ rest) ≡ before (placed_in score (applied plan sets) entity) (placing_of score (applied plan sets) rest)
placing_of-placed score plan entity rest sets best = ap (placing_with score plan entity rest) best

-- a placing whose first entity has no edit
placing_of-stuck : (score : PlanView → PlanScore) (plan : PlanView) (entity : Touch) (rest : List Touch) → best_edit score plan entity ≡ None
    → placing_of score plan (entity ∷ rest) ≡ stuck_at plan entity
placing_of-stuck score plan entity rest none = ap (placing_with score plan entity rest) none

-- what is left begins with the next entity
left_at : (todo : List Touch) (k : ℕ) (d : Touch) → k < length todo → drop k todo ≡ get_or todo k d ∷ drop (k + 1) todo
left_at todo k d within = drop-cons todo k d within ∙ ap (λ n. get_or todo k d ∷ drop n todo) (sym (add-one k))

-- one entity more was placed
pub goes_on : (score : PlanView → PlanScore) (plan next : PlanView) (todo : List Touch) (k : ℕ) (d : Touch) (sets : List Set) (placed : List Placed) (one : Placed) (whole : Placing)
    → k < length todo → best_edit score plan (get_or todo k d) ≡ Some sets → next ≡ applied plan sets → one ≡ placed_in score next (get_or todo k d)
    → with_front placed (placing_of score plan (drop k todo)) ≡ whole → with_front (placed ++ one ∷ []) (placing_of score next (drop (k + 1) todo)) ≡ whole
goes_on score plan next todo k d sets placed one whole within best next_is is was =
    let entity = get_or todo k d in
    let rest = placing_of score next (drop (k + 1) todo) in
    let here : placing_of score plan (drop k todo) ≡ before one rest =
    ap (placing_of score plan) (left_at todo k d within) ∙ placing_of-placed score plan entity (drop (k + 1) todo) sets best
    ∙ ap (λ p. before (placed_in score p entity) (placing_of score p (drop (k + 1) todo))) (sym next_is) ∙ ap (λ o. before o rest) (sym is) in
    ap (λ zs. record { placed = zs; stuck = rest.stuck; plan = rest.plan }) (append_assoc placed (one ∷ []) rest.placed) ∙ sym (ap (with_front placed) here) ∙ was

-- the placing is stuck at the next entity
pub ends_stuck : (score : PlanView → PlanScore) (plan now : PlanView) (todo : List Touch) (k : ℕ) (d : Touch) (placed : List Placed) (whole : Placing)
    → k < length todo → now ≡ plan → best_edit score plan (get_or todo k d) ≡ None → with_front placed (placing_of score plan (drop k todo)) ≡ whole
    → record { placed = placed; stuck = Some (get_or todo k d); plan = now } ≡ whole
ends_stuck score plan now todo k d placed whole within same none was =
    let here : placing_of score plan (drop k todo) ≡ stuck_at plan (get_or todo k d) =
    ap (placing_of score plan) (left_at todo k d within) ∙ placing_of-stuck score plan (get_or todo k d) (drop (k + 1) todo) none in
    (λ i. record { placed = sym (append-nil placed) i; stuck = Some (get_or todo k d); plan = same i }) ∙ sym (ap (with_front placed) here) ∙ was

-- all entities were placed
pub ends_done : (score : PlanView → PlanScore) (plan : PlanView) (todo : List Touch) (k : ℕ) (placed : List Placed) (whole : Placing) → length todo ≤ k
    → with_front placed (placing_of score plan (drop k todo)) ≡ whole → record { placed = placed; stuck = None; plan = plan } ≡ whole
ends_done score plan todo k placed whole past was =
    ap (λ zs. record { placed = zs; stuck = None; plan = plan }) (sym (append-nil placed))
    ∙ sym (ap (λ rest. with_front placed (placing_of score plan rest)) (drop_all k todo past)) ∙ was

-- none was placed yet
pub places_none : (score : PlanView → PlanScore) (plan : PlanView) (todo : List Touch) → PlacesFirst score plan todo 0 plan
places_none score plan todo = record { unstuck = refl; left = refl }

-- one more of the first entities was placed
pub places_more : (score : PlanView → PlanScore) (plan now next : PlanView) (todo : List Touch) (k : ℕ) (d : Touch) (sets : List Set) → k < length todo
    → PlacesFirst score plan todo k now → best_edit score now (get_or todo k d) ≡ Some sets → next ≡ applied now sets → PlacesFirst score plan todo (k + 1) next
places_more score plan now next todo k d sets within was best is =
    let entity = get_or todo k d in
    let first = placing_of score plan (take k todo) in
    let last = placing_of-placed score now entity [] sets best in
    let whole = ap (placing_of score plan) (take_more todo k d within) ∙ placing_of-append score plan (take k todo) (entity ∷ []) was.unstuck in
    let after : placing_of score first.plan (entity ∷ []) ≡ before (placed_in score (applied now sets) entity) (placing_of score (applied now sets) []) =
    ap (λ p. placing_of score p (entity ∷ [])) (sym was.left) ∙ last in
    record {
      unstuck = ap (λ (p : Placing). p.stuck) whole ∙ ap (λ (p : Placing). p.stuck) after;
      left = is ∙ sym (ap (λ (p : Placing). p.plan) whole ∙ ap (λ (p : Placing). p.plan) after);
    }

-- whichever stands at a place of what may be placed is to be placed
pub waits_at : (plan : PlanView) (todo : List Touch) (k : ℕ) → AwaitPlacing plan todo → ForSome (slice_get todo k) (λ entity. is_to_place plan entity ≡ true)
waits_at plan todo k awaits =
    λ entity at. subst (λ one. is_to_place plan one ≡ true) (get_or_from_slice_get todo k entity entity at)
    (awaits.each k entity (slice_get_within todo k entity at))

-- the next entity is to be placed
pub waits_now : (plan : PlanView) (todo : List Touch) (k : ℕ) (d : Touch) → k < length todo → AwaitPlacing plan (drop k todo) → is_to_place plan (get_or todo k d) ≡ true
waits_now plan todo k d within awaits =
    let left = subst (AwaitPlacing plan) (left_at todo k d within) awaits in
    left.each 0 d (omega arith)

-- once it is placed the others are
pub waits_then : (score : PlanView → PlanScore) (plan next : PlanView) (todo : List Touch) (k : ℕ) (d : Touch) (sets : List Set) → k < length todo
    → AwaitPlacing plan (drop k todo) → best_edit score plan (get_or todo k d) ≡ Some sets → next ≡ applied plan sets → AwaitPlacing next (drop (k + 1) todo)
waits_then score plan next todo k d sets within awaits best is =
    subst (λ p. AwaitPlacing p (drop (k + 1) todo)) (sym is)
    (rest_awaits score plan (get_or todo k d) (drop (k + 1) todo) sets (subst (AwaitPlacing plan) (left_at todo k d within) awaits) best)
