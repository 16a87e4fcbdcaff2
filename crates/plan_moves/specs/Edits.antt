-- Edits of a plan: which are legal and doable, what they make of a plan, and what takes them back.
use Rattle.std.specs.Prelude.{◌≡◌, ◌==◌, ◌&&◌, not, ℕ, Bool, false, IsTrue, List, [], ◌∷◌, ◌++◌, map, filter, fold, AllPairs, Option, None, is_some, nat_eq, slice_get, if◌then◌else◌}
use Rattle.std.specs.Option.{option_eq, option_map_or, option_and_then}
use Rattle.std.specs.List.{list_all, list_any, enumerate_from}
use Rattle.std.specs.Ordering.{nat_cmp, is_lt, is_eq, then_cmp, on}
use Rattle.std.specs.declared.cmp.Ordering.{Ordering}
use Rattle.plan_facts.specs.Plan.{PlanView, class_of, fact_of, is_pinned, is_value_of}
use Rattle.plan_facts.specs.PlanChanges.{with_value}
use Rattle.plan_moves.specs.declared.edit.Set.{Set}
use Rattle.plan_moves.specs.declared.edit.Touch.{Touch}

-- the order of class, then id, then variable
unfoldable pub set_order : Set → Set → Ordering
set_order = then_cmp (on (λ s. s.class) nat_cmp) (then_cmp (on (λ s. s.id) nat_cmp) (on (λ s. s.var) nat_cmp))

-- the order of class, then id
unfoldable pub touch_order : Touch → Touch → Ordering
touch_order = then_cmp (on (λ t. t.class) nat_cmp) (on (λ t. t.id) nat_cmp)

-- one variable comes before another
abbrev pub IsBefore : Set → Set → Type 0
IsBefore one other = IsTrue (is_lt (set_order one other))

-- sets stand in the order of their variables, each variable once
abbrev pub AreInOrder : List Set → Type 0
AreInOrder sets = AllPairs IsBefore sets

-- entities stand in the order of class and id, each once
abbrev pub AreTouchesInOrder : List Touch → Type 0
AreTouchesInOrder touches = AllPairs (λ one other. IsTrue (is_lt (touch_order one other))) touches

-- whether an edit sets this variable
abbrev pub is_set_in : List Set → Set → Bool
is_set_in sets set = list_any (λ other. is_eq (set_order other set)) sets

-- the sets with one more: those before it, it, and those after it
abbrev pub with_set : List Set → Set → List Set
with_set sets set =
    filter (λ other. is_lt (set_order other set)) sets ++ set ∷ filter (λ other. is_lt (set_order set other)) sets

-- the sets with one more, unless they set that variable already
unfoldable pub with_new : List Set → Set → List Set
with_new sets set = if is_set_in sets set then sets else with_set sets set

-- the edit of these sets; of those with one variable the first counts
unfoldable pub edit_of : List Set → List Set
edit_of sets = fold with_new [] sets

-- the sets that give an entity these values in its variables
abbrev pub sets_of : ℕ → ℕ → List (Option ℕ) → List Set
sets_of class id values =
    map (λ at. record { class = class; id = id; var = at.0; value = at.1 }) (enumerate_from 0 values)

-- what a variable of a live entity holds now; none where there is no such variable
abbrev pub held_by : PlanView → ℕ → ℕ → ℕ → Option (Option ℕ)
held_by plan class id var = option_and_then (λ raw. slice_get raw.values var) (fact_of plan class id)

-- the variable is there, and its entity isn't pinned
abbrev pub is_movable_var : PlanView → Set → Bool
is_movable_var plan set = is_some (held_by plan set.class set.id set.var) && not (is_pinned plan set.class set.id)

-- the value is null or live in the variable's range
abbrev pub is_in_range : PlanView → Set → Bool
is_in_range plan set =
    option_map_or (λ range. is_value_of plan range set.value) (slice_get (class_of plan set.class).ranges set.var) false

-- the variable may be set, and to this value
abbrev pub is_legal_set : PlanView → Set → Bool
is_legal_set plan set = is_movable_var plan set && is_in_range plan set

-- the set changes what its variable holds
abbrev pub is_change : PlanView → Set → Bool
is_change plan set =
    option_map_or (λ held. not (option_eq nat_eq held set.value)) (held_by plan set.class set.id set.var) false

-- each set of the edit is legal
abbrev pub is_legal : PlanView → List Set → Bool
is_legal plan sets = list_all (is_legal_set plan) sets

-- the edit is legal and changes some variable
abbrev pub is_doable : PlanView → List Set → Bool
is_doable plan sets = is_legal plan sets && list_any (is_change plan) sets

-- the plan after the edit
unfoldable pub applied : PlanView → List Set → PlanView
applied plan sets = fold (λ p set. with_value p set.class set.id set.var set.value) plan sets

-- the set that gives its variable what it holds now
abbrev pub set_back : PlanView → Set → Set
set_back plan set =
    record set { value = option_map_or (λ held. held) (held_by plan set.class set.id set.var) None }

-- the edit that takes a legal edit back: the same variables with their present values
unfoldable pub inverse_of : PlanView → List Set → List Set
inverse_of plan sets = map (set_back plan) sets

-- one edit takes another back: it is legal after that, and gives the plan as it was
pub record TakesBack (plan : PlanView) (sets back : List Set) : Type 0 where
  pub legal : IsTrue (is_legal (applied plan sets) back)
  pub restored : applied (applied plan sets) back ≡ plan

-- the entity of a set
abbrev pub entity_of : Set → Touch
entity_of set = record { class = set.class; id = set.id }

-- the two are one entity
abbrev pub is_same : Touch → Touch → Bool
is_same one other = (one.class == other.class) && (one.id == other.id)

-- the entity is the one that the rest begins with
abbrev pub is_first_touched : Touch → List Touch → Bool
is_first_touched touch [] = false
is_first_touched touch (first ∷ rest) = is_same touch first

-- the entities of an edit, each once, in order
abbrev pub touched_by : List Set → List Touch
touched_by [] = []
touched_by (set ∷ rest) =
    let others = touched_by rest in if is_first_touched (entity_of set) others then others else entity_of set ∷ others
