-- The edit that each selector makes of a plan and eight words.
use Rattle.std.specs.Prelude.{ℕ, Bool, ◌==◌, List, [], ◌∷◌, ◌++◌, Option, Some, None, map, slice_index, option_map, if◌then◌else◌}
use Rattle.std.specs.Option.{option_and_then}
use Rattle.std.specs.List.{flat_map}
use Rattle.plan_facts.specs.declared.record.Raw.{Raw}
use Rattle.plan_facts.specs.Plan.{PlanView, class_of}
use Rattle.plan_settings.specs.declared.setting.Selector.{Selector}
use Rattle.plan_settings.specs.declared.setting.Selector.TheVariants.{Change, Swap, PillarChange, PillarSwap, Own}
use Rattle.plan_draws.specs.Picks.{picked}
use Rattle.plan_moves.specs.declared.edit.Set.{Set}
use Rattle.plan_moves.specs.declared.edit.Touch.{Touch}
use Rattle.plan_moves.specs.Edits.{edit_of, sets_of}
use Rattle.plan_moves.specs.Entities.{entity_classes, movable_in, movable_of}
use Rattle.move_selectors.specs.declared.values.Choice.{Choice}
use Rattle.move_selectors.specs.Choices.{choice_of}
use Rattle.move_selectors.specs.Pillars.{same_values, pillars_of, pillars_in, members_of}

-- the chosen variable of an entity is set to what was chosen
abbrev pub chosen_set : ℕ → Choice → ℕ → Set
chosen_set class choice id = record { class = class; id = id; var = choice.var; value = choice.value }

-- one variable of this entity is set to one of its choices
abbrev pub change_at : PlanView → List ℕ → Touch → Option (List Set)
change_at plan words entity =
    option_map (λ choice. chosen_set entity.class choice entity.id ∷ [])
    (choice_of plan entity.class (slice_index words 2) (slice_index words 3))

-- one variable of one movable entity is set to one of its choices
abbrev pub change_of : PlanView → List ℕ → Option (List Set)
change_of plan words = option_and_then (change_at plan words) (picked (slice_index words 1) (movable_of plan))

-- two entities of a class get each other's values in all variables; none where they are one
unfoldable pub exchange_of : ℕ → Raw → Raw → Option (List Set)
exchange_of class one other =
    if one.id == other.id then None else
    Some (edit_of (sets_of class one.id other.values ++ sets_of class other.id one.values))

-- two of some entities, each picked by a word, are exchanged
abbrev pub swap_among : ℕ → List Raw → List ℕ → Option (List Set)
swap_among class entities words =
    option_and_then (λ one. option_and_then (exchange_of class one) (picked (slice_index words 3) entities))
    (picked (slice_index words 2) entities)

-- two movable entities of a class are exchanged
abbrev pub swap_in : PlanView → ℕ → List ℕ → Option (List Set)
swap_in plan class words = swap_among class (movable_in plan class) words

-- the chosen variable of all members of a pillar is set to what was chosen
unfoldable pub pillar_edit_of : ℕ → List Raw → List (Option ℕ) → Choice → List Set
pillar_edit_of class entities pillar choice =
    edit_of (map (λ raw. chosen_set class choice raw.id) (members_of pillar entities))

-- one variable of all members of a pillar of a class is set to one of its choices
abbrev pub pillar_change_in : PlanView → ℕ → List ℕ → Option (List Set)
pillar_change_in plan class words =
    option_and_then
    (λ pillar. option_map (pillar_edit_of class (movable_in plan class) pillar)
    (choice_of plan class (slice_index words 3) (slice_index words 4)))
    (picked (slice_index words 2) (pillars_in plan class))

-- an entity that has the values of one of two pillars gets those of the other
unfoldable pub exchanged_sets : ℕ → List (Option ℕ) → List (Option ℕ) → Raw → List Set
exchanged_sets class one other raw =
    if same_values raw.values one then sets_of class raw.id other else
    (if same_values raw.values other then sets_of class raw.id one else [])

-- all members of two pillars get the other pillar's values; none where the pillars are one
unfoldable pub pillar_exchange_of : ℕ → List Raw → List (Option ℕ) → List (Option ℕ) → Option (List Set)
pillar_exchange_of class entities one other =
    if same_values one other then None else Some (edit_of (flat_map (exchanged_sets class one other) entities))

-- two pillars of some entities, each picked by a word, are exchanged
abbrev pub pillar_swap_among : ℕ → List Bool → List Raw → List ℕ → Option (List Set)
pillar_swap_among class nullables entities words =
    option_and_then
    (λ one. option_and_then (pillar_exchange_of class entities one)
    (picked (slice_index words 3) (pillars_of nullables entities)))
    (picked (slice_index words 2) (pillars_of nullables entities))

-- two pillars of a class are exchanged
abbrev pub pillar_swap_in : PlanView → ℕ → List ℕ → Option (List Set)
pillar_swap_in plan class words =
    pillar_swap_among class (class_of plan class).nullables (movable_in plan class) words

-- what is made of the class of entities that the second word picks
abbrev pub in_picked_class : (PlanView → ℕ → List ℕ → Option (List Set)) → PlanView → List ℕ → Option (List Set)
in_picked_class made plan words =
    option_and_then (λ class. made plan class words) (picked (slice_index words 1) (entity_classes plan))

-- what makers of moves make of a plan and eight words: an edit, or none
abbrev pub Made : Type 0
Made = PlanView → List ℕ → Option (List Set)

-- what a maker, picked by the second word, makes of the plan and all words
abbrev pub own_of : PlanView → List Made → List ℕ → Option (List Set)
own_of plan makers words = option_and_then (λ made. made plan words) (picked (slice_index words 1) makers)

-- the edit that a selector makes, or none
abbrev pub selected_of : Selector → PlanView → List Made → List ℕ → Option (List Set)
selected_of Change plan makers words = change_of plan words
selected_of Swap plan makers words = in_picked_class swap_in plan words
selected_of PillarChange plan makers words = in_picked_class pillar_change_in plan words
selected_of PillarSwap plan makers words = in_picked_class pillar_swap_in plan words
selected_of Own plan makers words = own_of plan makers words

-- the edit that the selector picked by the first word makes, or none
unfoldable pub candidate_of : PlanView → List Selector → List Made → List ℕ → Option (List Set)
candidate_of plan selectors makers words =
    option_and_then (λ selector. selected_of selector plan makers words) (picked (slice_index words 0) selectors)
