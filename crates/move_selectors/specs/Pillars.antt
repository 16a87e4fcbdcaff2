-- The pillars of a class: the sets of all its movable entities that have the same values.
use Rattle.std.specs.Prelude.{ℕ, Bool, not, ◌||◌, is_some, List, [], ◌∷◌, Option, nat_eq, map, filter, zip}
use Rattle.std.specs.Option.{option_eq}
use Rattle.std.specs.List.{list_all}
use lib.Pointwise.{pointwise}
use Rattle.plan_facts.specs.declared.record.Raw.{Raw}
use Rattle.plan_facts.specs.Plan.{PlanView, class_of}
use Rattle.plan_moves.specs.Entities.{movable_in}

-- the two lists have the same values in the same variables
abbrev pub same_values : List (Option ℕ) → List (Option ℕ) → Bool
same_values one other = pointwise (option_eq nat_eq) one other

-- no value is missing: each is there, or its variable may stay null
abbrev pub is_settled : List Bool → List (Option ℕ) → Bool
is_settled nullables values = list_all (λ pair. pair.0 || is_some pair.1) (zip nullables values)

-- each member of a list once, where it first stands
abbrev pub distinct : {A : Type 0} → (A → A → Bool) → List A → List A
distinct same [] = []
distinct same (first ∷ rest) = first ∷ filter (λ other. not (same first other)) (distinct same rest)

-- the pillars of some entities, each as its values, in the order of their lowest ids
unfoldable pub pillars_of : List Bool → List Raw → List (List (Option ℕ))
pillars_of nullables entities =
    distinct same_values (filter (is_settled nullables) (map (λ raw. raw.values) entities))

-- the pillars of a class
abbrev pub pillars_in : PlanView → ℕ → List (List (Option ℕ))
pillars_in plan class = pillars_of (class_of plan class).nullables (movable_in plan class)

-- the members of a pillar
abbrev pub members_of : List (Option ℕ) → List Raw → List Raw
members_of pillar entities = filter (λ raw. same_values raw.values pillar) entities
