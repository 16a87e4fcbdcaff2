-- Laws of what is to be placed, and of what an entity's placing leaves of it.
use Rattle.std.specs.Prelude.{◌≡◌, ◌≢◌, ◌↔◌, ◌<◌, ◌<ℤ◌, ℤ, Bool, false, IsTrue, is_none, List, ◌∷◌, All, AllPairs, IsPermutation, IsSorted, Some}
use Rattle.std.specs.List.{list_any}
use Rattle.std.specs.Ordering.{is_lt}
use Rattle.plan_scores.specs.declared.plan_score.PlanScore.{PlanScore}
use Rattle.plan_facts.specs.declared.record.Raw.{Raw}
use Rattle.plan_facts.specs.Plan.{IsPlan, PlanView, fact_of}
use Rattle.plan_rules.specs.declared.rule.Harder.{Harder}
use Rattle.plan_rules.specs.Meaning.{Meaning}
use Rattle.plan_moves.specs.declared.edit.Set.{Set}
use Rattle.plan_moves.specs.declared.edit.Touch.{Touch}
use Rattle.plan_moves.specs.Edits.{applied, is_doable, is_legal}
use Rattle.plan_search.specs.InOrder.{in_order}
use Rattle.plan_search.specs.Placing.{best_edit}
use Rattle.plan_search.specs.Todo.{harder_first, is_to_place, todo_by}

-- entities that are put in order are the same entities
abbrev pub OrderKeepsAll : Type 0
OrderKeepsAll = (difficulty : Touch → ℤ) (entities : List Touch)
    → IsPermutation entities (in_order (harder_first difficulty) entities)

-- none of them comes before an earlier one
abbrev pub OrderIsSorted : Type 0
OrderIsSorted = (difficulty : Touch → ℤ) (entities : List Touch)
    → IsSorted (harder_first difficulty) (in_order (harder_first difficulty) entities)

-- no other list of them is so
abbrev pub OrderIsTheOnlyOne : Type 0
OrderIsTheOnlyOne = (difficulty : Touch → ℤ) (entities sorted : List Touch) → IsPermutation entities sorted
    → IsSorted (harder_first difficulty) sorted → sorted ≡ in_order (harder_first difficulty) entities

-- when one entity comes before another: it is of a lesser class; or of the same and more difficult; or as difficult with a lesser id
pub record ComesFirst (difficulty : Touch → ℤ) (one other : Touch) : Type 0 where
  pub class : one.class < other.class → IsTrue (is_lt (harder_first difficulty one other))
  pub harder : one.class ≡ other.class → difficulty other <ℤ difficulty one
      → IsTrue (is_lt (harder_first difficulty one other))
  pub id : one.class ≡ other.class → difficulty other ≡ difficulty one → one.id < other.id
      → IsTrue (is_lt (harder_first difficulty one other))

-- harder entities come first in their class
abbrev pub HarderComesFirst : Type 0
HarderComesFirst = (difficulty : Touch → ℤ) (one other : Touch) → ComesFirst difficulty one other

-- a live record of an entity that isn't pinned, one of whose variables is null
pub record Waits (plan : PlanView) (entity : Touch) : Type 0 where
  pub raw : Raw
  pub live : fact_of plan entity.class entity.id ≡ Some raw
  pub free : raw.pinned ≡ false
  pub null : IsTrue (list_any is_none raw.values)

-- an entity is to be placed exactly where it is live, isn't pinned and has a null variable
abbrev pub ToPlaceWaits : Type 0
ToPlaceWaits = (plan : PlanView) (entity : Touch) → IsTrue (is_to_place plan entity) ↔ Waits plan entity

-- entities may be placed one after the other: none stands twice, and each is to be placed
pub record AwaitPlacing (plan : PlanView) (todo : List Touch) : Type 0 where
  pub different : AllPairs (λ one other. one ≢ other) todo
  pub each : All (λ entity. IsTrue (is_to_place plan entity)) todo

-- what is to be placed in a plan may be placed
abbrev pub TodoAwaits : Type 0
TodoAwaits = (m : Meaning) (harder : List Harder) (decreasing : Bool) (plan : PlanView) → IsPlan plan
    → AwaitPlacing plan (todo_by m harder decreasing plan)

-- what is to be placed after an entity is the rest
abbrev pub RestAwaits : Type 0
RestAwaits = (score : PlanView → PlanScore) (plan : PlanView) (entity : Touch) (rest : List Touch) (sets : List Set)
    → AwaitPlacing plan (entity ∷ rest) → best_edit score plan entity ≡ Some sets
    → AwaitPlacing (applied plan sets) rest

-- an edit that may be made and changes nothing, as one that sets null variables to null, leaves the plan as it was
abbrev pub IdleEditsLeaveThePlan : Type 0
IdleEditsLeaveThePlan = (plan : PlanView) (sets : List Set) → IsPlan plan → IsTrue (is_legal plan sets)
    → is_doable plan sets ≡ false → applied plan sets ≡ plan
