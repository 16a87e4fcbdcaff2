-- Placing: entities are placed in order, each once, by the first best of all combinations of choices.
use Rattle.std.specs.Prelude.{ℕ, List, [], ◌∷◌, map, filter, flat_map, Option, Some, None, is_none}
use Rattle.std.specs.List.{enumerate_from}
use Rattle.plan_scores.specs.declared.plan_score.PlanScore.{PlanScore}
use Rattle.plan_scores.specs.Best.{first_best}
use Rattle.plan_facts.specs.Plan.{PlanView}
use Rattle.plan_moves.specs.declared.edit.Set.{Set}
use Rattle.plan_moves.specs.declared.edit.Touch.{Touch}
use Rattle.plan_moves.specs.Edits.{applied}
use Rattle.plan_moves.specs.Entities.{choices_of, values_of}
use Rattle.plan_search.specs.declared.placed.Placed.{Placed}

-- the null variables among some values, by their places
abbrev pub null_places : List (Option ℕ) → List ℕ
null_places values = map (λ pair. pair.0) (filter (λ pair. is_none pair.1) (enumerate_from 0 values))

-- a variable of an entity set to a value, or to null
abbrev pub choice_set : Touch → ℕ → Option ℕ → Set
choice_set entity var value = record { class = entity.class; id = entity.id; var = var; value = value }

-- what a variable of an entity may be set to, in the order of its choices
abbrev pub choice_sets : PlanView → Touch → ℕ → List Set
choice_sets plan entity var = map (choice_set entity var) (choices_of plan entity.class var)

-- all combinations of one choice for each variable, in lexicographic order of their places, the first variable first
abbrev pub combinations : List (List Set) → List (List Set)
combinations [] = [] ∷ []
combinations (choices ∷ rest) = flat_map (λ choice. map (λ sets. choice ∷ sets) (combinations rest)) choices

-- the choices of each null variable of an entity
abbrev pub null_choices : PlanView → Touch → List (List Set)
null_choices plan entity = map (choice_sets plan entity) (null_places (values_of plan entity))

-- the edits that set each null variable of an entity to one of its choices
abbrev pub placing_edits : PlanView → Touch → List (List Set)
placing_edits plan entity = combinations (null_choices plan entity)

-- the best of the edits that place an entity, under a score of plans; none where a null variable has no choice
unfoldable pub best_edit : (PlanView → PlanScore) → PlanView → Touch → Option (List Set)
best_edit score plan entity = first_best (λ sets. score (applied plan sets)) (placing_edits plan entity)

-- the course of a placing: what was placed, in order; the entity at which it was stuck, if any; the last plan
pub record Placing : Type 0 where
  pub placed : List Placed
  pub stuck : Option Touch
  pub plan : PlanView

-- an entity as it is in the plan after it was placed
abbrev pub placed_in : (PlanView → PlanScore) → PlanView → Touch → Placed
placed_in score plan entity =
    record { class = entity.class; id = entity.id; values = values_of plan entity; score = score plan }

-- one more entity placed, before the rest
abbrev pub before : Placed → Placing → Placing
before one rest = record { placed = one ∷ rest.placed; stuck = rest.stuck; plan = rest.plan }

-- entities placed one after the other, up to one that is stuck
abbrev pub placing_of : (PlanView → PlanScore) → PlanView → List Touch → Placing
placing_of score plan [] = record { placed = []; stuck = None; plan = plan }
placing_of score plan (entity ∷ rest) =
    elim (best_edit score plan entity) [
      | None ↦ record { placed = []; stuck = Some entity; plan = plan }
      | Some sets ↦
          let next = applied plan sets in
          before (placed_in score next entity) (placing_of score next rest)
    ]
