-- Placings as they are handed out.
use Rattle.std.specs.Prelude.{◌≡◌, ⊤, ℕ, IsTrue, List, Option, None, slice_get, take}
use Rattle.std.specs.Option.{option_map_or}
use Rattle.plan_scores.specs.declared.plan_score.PlanScore.{PlanScore}
use Rattle.plan_facts.specs.Plan.{PlanView}
use Rattle.plan_moves.specs.declared.edit.Set.{Set}
use Rattle.plan_moves.specs.declared.edit.Touch.{Touch}
use Rattle.plan_moves.specs.Edits.{applied, is_legal}
use Rattle.plan_search.specs.declared.placed.Placed.{Placed}
use Rattle.plan_search.specs.Placing.{Placing, best_edit, placing_of}
use Rattle.construction.specs.declared.next.Course.{Course}
use Rattle.construction.specs.declared.next.Placing.{Placing as Next}
use Rattle.construction.specs.declared.next.Placing.TheVariants.{Done, Stuck, Put}

-- an entity is placed by these sets
abbrev pub put_by : (PlanView → PlanScore) → PlanView → List Set → Next
put_by score plan sets = Put sets (score (applied plan sets))

-- the placing of an entity: stuck where it has no best edit, else by that one
abbrev pub placing_at : (PlanView → PlanScore) → PlanView → Touch → Next
placing_at score plan entity =
    option_map_or (put_by score plan) (best_edit score plan entity) (Stuck entity.class entity.id)

-- the next placing: done behind the last entity, else that of the entity at this place
abbrev pub next_of : (PlanView → PlanScore) → PlanView → List Touch → ℕ → Next
next_of score plan todo n = option_map_or (placing_at score plan) (slice_get todo n) Done

-- the edit of a placing may be made
abbrev pub IsLegalIn : PlanView → Next → Type 0
IsLegalIn plan Done = ⊤
IsLegalIn plan (Stuck class id) = ⊤
IsLegalIn plan (Put edit score) = IsTrue (is_legal plan edit)

-- an entity with the values that it was placed with, and the score after it
abbrev pub placed_as : List (Option ℕ) → Touch → PlanScore → Placed
placed_as values entity score = record { class = entity.class; id = entity.id; values = values; score = score }

-- the course of a placing that left this plan
abbrev pub course_of : Course → PlanView → Placing
course_of course plan = record { placed = course.placed; stuck = course.stuck; plan = plan }

-- the first so many of the entities were placed, and none of them was stuck
pub record PlacesFirst (score : PlanView → PlanScore) (plan : PlanView) (todo : List Touch) (count : ℕ) (new : PlanView)
    : Type 0 where
  pub unstuck : (placing_of score plan (take count todo)).stuck ≡ None
  pub left : new ≡ (placing_of score plan (take count todo)).plan

-- some first ones of the entities were placed, and nothing else was done
abbrev pub PlacesFront : (PlanView → PlanScore) → PlanView → List Touch → PlanView → Type 0
PlacesFront score plan todo new = (count : ℕ) × PlacesFirst score plan todo count new
