-- The entities of a plan: which may be moved, and what their variables may be set to.
use Rattle.std.specs.Prelude.{ℕ, Bool, not, nat_lt, List, [], ◌∷◌, ◌++◌, length, map, filter, Option, Some, None, if◌then◌else◌}
use Rattle.std.specs.Option.{option_map_or}
use Rattle.std.specs.List.{flat_map, range_with_len}
use Rattle.plan_facts.specs.declared.record.Raw.{Raw}
use Rattle.plan_facts.specs.Plan.{PlanView, class_of, fact_of, ids_of, range_of, is_nullable}
use Rattle.plan_moves.specs.declared.edit.Touch.{Touch}

-- the class has variables, so that its facts are entities
abbrev pub is_entity_class : PlanView → ℕ → Bool
is_entity_class plan class = nat_lt 0 (length (class_of plan class).ranges)

-- the classes of entities, in the schema's order
unfoldable pub entity_classes : PlanView → List ℕ
entity_classes plan = filter (is_entity_class plan) (range_with_len 0 (length plan.classes))

-- a record of a class as an entity
abbrev pub touch_of : ℕ → Raw → Touch
touch_of class raw = record { class = class; id = raw.id }

-- all entities in entity order: their classes in the schema's order, in each the ids increasing
unfoldable pub entities_of : PlanView → List Touch
entities_of plan = flat_map (λ class. map (touch_of class) (class_of plan class).facts) (entity_classes plan)

-- an entity that isn't pinned may be moved
abbrev pub is_movable : Raw → Bool
is_movable raw = not raw.pinned

-- the movable entities of a class, the ids increasing
abbrev pub movable_in : PlanView → ℕ → List Raw
movable_in plan class = filter is_movable (class_of plan class).facts

-- all movable entities, in entity order
unfoldable pub movable_of : PlanView → List Touch
movable_of plan = flat_map (λ class. map (touch_of class) (movable_in plan class)) (entity_classes plan)

-- what the variables of an entity hold; nothing where it isn't live
abbrev pub values_of : PlanView → Touch → List (Option ℕ)
values_of plan touch = option_map_or (λ raw. raw.values) (fact_of plan touch.class touch.id) []

-- null, where a variable may stay null
abbrev pub null_choice : Bool → List (Option ℕ)
null_choice nullable = if nullable then None ∷ [] else []

-- what a variable of a class may be set to: the ids of its range, increasing, then null where it may stay null
abbrev pub choices_of : PlanView → ℕ → ℕ → List (Option ℕ)
choices_of plan class var =
    map (λ id. Some id) (ids_of plan (range_of plan class var)) ++ null_choice (is_nullable plan class var)
