-- Laws of the definitions of a placing.
use Rattle.std.specs.Prelude.{◌≡◌, ◌↔◌, ◌+◌, ◌*◌, ℕ, List, [], ◌∷◌, ◌++◌, map, length, slice_get, Contains, Some, None, option_to_list}
use Rattle.std.specs.List.{AllZip}
use Rattle.plan_scores.specs.declared.plan_score.PlanScore.{PlanScore}
use Rattle.plan_facts.specs.Plan.{PlanView}
use Rattle.plan_moves.specs.declared.edit.Set.{Set}
use Rattle.plan_moves.specs.declared.edit.Touch.{Touch}
use Rattle.plan_moves.specs.Edits.{applied}
use Rattle.plan_moves.specs.Entities.{values_of}
use Rattle.plan_search.specs.declared.placed.Placed.{Placed}
use Rattle.plan_search.specs.Placing.{Placing, best_edit, combinations, null_choices, placing_of}

-- some numbers multiplied; 1 where there are none
abbrev pub product_of : List ℕ → ℕ
product_of [] = 1
product_of (n ∷ rest) = n * product_of rest

-- there are as many combinations as the numbers of choices multiplied
abbrev pub CombinationsAreCounted : Type 0
CombinationsAreCounted = (lists : List (List Set)) → length (combinations lists) ≡ product_of (map length lists)

-- some sets are one of each list of choices, in the order of the lists
abbrev pub IsOneOfEach : List (List Set) → List Set → Type 0
IsOneOfEach lists sets = AllZip (λ choices set. Contains choices set) lists sets

-- some sets are one of the combinations exactly where they are one of each list of choices
abbrev pub CombinationsTakeOneOfEach : Type 0
CombinationsTakeOneOfEach = (lists : List (List Set)) (sets : List Set)
    → Contains (combinations lists) sets ↔ IsOneOfEach lists sets

-- the combinations with the first choice come first, then those with the next one, and so on, each time in the order of the
-- combinations of the other lists
abbrev pub CombinationsAreInOrder : Type 0
CombinationsAreInOrder = (choices : List Set) (rest : List (List Set)) (i j : ℕ) (choice : Set) (sets : List Set)
    → slice_get choices i ≡ Some choice → slice_get (combinations rest) j ≡ Some sets
    → slice_get (combinations (choices ∷ rest)) (i * length (combinations rest) + j) ≡ Some (choice ∷ sets)

-- an entity that was placed, by its class and id alone
abbrev pub placed_touch : Placed → Touch
placed_touch one = record { class = one.class; id = one.id }

-- the entities that a placing came to: those that were placed, in order, then the one at which it was stuck, if any
abbrev pub tried_in : Placing → List Touch
tried_in placing = map placed_touch placing.placed ++ option_to_list placing.stuck

-- a placing came to the first of these entities, in their order, and to all of them unless it was stuck
pub record GoesThrough (todo : List Touch) (placing : Placing) : Type 0 where
  pub after : List Touch
  pub is : tried_in placing ++ after ≡ todo
  pub all : placing.stuck ≡ None → after ≡ []

-- an entity that was placed has the values that it has in this plan, and the score of this plan
pub record IsAsIn (score : PlanView → PlanScore) (plan : PlanView) (one : Placed) : Type 0 where
  pub values : one.values ≡ values_of plan (placed_touch one)
  pub scored : one.score ≡ score plan

-- where none was placed the last plan is the first one; else the entity that was placed last is as in the last plan
pub record EndsAsPlaced (score : PlanView → PlanScore) (plan : PlanView) (placing : Placing) : Type 0 where
  pub none : placing.placed ≡ [] → placing.plan ≡ plan
  pub last : (front : List Placed) (one : Placed) → placing.placed ≡ front ++ one ∷ [] → IsAsIn score placing.plan one

-- a placing that goes on where another one ended: what both placed, and where the second one ended
abbrev pub joined : Placing → Placing → Placing
joined one next = record { placed = one.placed ++ next.placed; stuck = next.stuck; plan = next.plan }

-- a placing comes to the entities in order, to all of them or up to one at which it is stuck
abbrev pub PlacesInOrder : Type 0
PlacesInOrder = (score : PlanView → PlanScore) (plan : PlanView) (todo : List Touch)
    → GoesThrough todo (placing_of score plan todo)

-- a placing is stuck at an entity that has no best edit in its last plan
abbrev pub IsStuckWithoutEdit : (PlanView → PlanScore) → Placing → Type 0
IsStuckWithoutEdit score placing = (entity : Touch)
    → placing.stuck ≡ Some entity → best_edit score placing.plan entity ≡ None

-- the entity at which a placing is stuck has no best edit in the last plan
abbrev pub StuckHasNoEdit : Type 0
StuckHasNoEdit = (score : PlanView → PlanScore) (plan : PlanView) (todo : List Touch)
    → IsStuckWithoutEdit score (placing_of score plan todo)

-- an entity has no best edit exactly where one of its null variables has no choice
abbrev pub NoEditWhereNoChoice : Type 0
NoEditWhereNoChoice = (score : PlanView → PlanScore) (plan : PlanView) (entity : Touch)
    → best_edit score plan entity ≡ None ↔ Contains (null_choices plan entity) []

-- an entity is placed by its best edit
abbrev pub PlacesByTheBest : Type 0
PlacesByTheBest = (score : PlanView → PlanScore) (plan : PlanView) (entity : Touch) (sets : List Set)
    → best_edit score plan entity ≡ Some sets → (placing_of score plan (entity ∷ [])).plan ≡ applied plan sets

-- the last plan is the one that the entities were placed in
abbrev pub LeavesThePlaced : Type 0
LeavesThePlaced = (score : PlanView → PlanScore) (plan : PlanView) (todo : List Touch)
    → EndsAsPlaced score plan (placing_of score plan todo)

-- a placing goes on with more entities, where it isn't stuck, in the plan that it left
abbrev pub GoesOnWith : (PlanView → PlanScore) → List Touch → Placing → Placing → Type 0
GoesOnWith score more placing whole =
    placing.stuck ≡ None → whole ≡ joined placing (placing_of score placing.plan more)

-- where none of the first entities is stuck, the others are placed in the plan that those leave
abbrev pub PlacingsJoin : Type 0
PlacingsJoin = (score : PlanView → PlanScore) (plan : PlanView) (todo more : List Touch)
    → GoesOnWith score more (placing_of score plan todo) (placing_of score plan (todo ++ more))
