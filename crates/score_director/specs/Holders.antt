-- The keys of the records that are about a fact: its own, and those of the records that hold it.
use Rattle.std.specs.Prelude.{◌==◌, ◌&&◌, ℕ, Bool, false, Option, None, Some, List, ◌∷◌, filter, length, map, zip}
use Rattle.std.specs.List.{flat_map, list_any, range_with_len}
use Rattle.plan_facts.specs.declared.record.Raw.{Raw}
use Rattle.plan_facts.specs.Plan.{PlanView, class_of}
use Rattle.plan_moves.specs.declared.edit.Touch.{Touch}

-- a variable with this value class holds the fact of a class with this id
abbrev pub is_held : ℕ → ℕ → ℕ → Option ℕ → Bool
is_held class id range None = false
is_held class id range (Some held) = (range == class) && (held == id)

-- one of the values of variables, with these value classes, is that fact
abbrev pub is_holder : ℕ → ℕ → List ℕ → List (Option ℕ) → Bool
is_holder class id ranges values = list_any (λ pair. is_held class id pair.0 pair.1) (zip ranges values)

-- the key of a record
abbrev pub key_at : ℕ → ℕ → Touch
key_at class id = record { class = class; id = id }

-- the keys of those of some records of a class, with these value classes, that hold a fact
abbrev pub keys_of_holders : Touch → ℕ → List ℕ → List Raw → List Touch
keys_of_holders fact class ranges facts =
    map (λ raw. key_at class raw.id) (filter (λ raw. is_holder fact.class fact.id ranges raw.values) facts)

-- the keys of the records of a class that hold a fact
abbrev pub holder_keys_in : PlanView → Touch → ℕ → List Touch
holder_keys_in plan fact class = keys_of_holders fact class (class_of plan class).ranges (class_of plan class).facts

-- the keys of all records that hold a fact
abbrev pub holder_keys : PlanView → Touch → List Touch
holder_keys plan fact = flat_map (holder_keys_in plan fact) (range_with_len 0 (length plan.classes))

-- the keys of the records that are about a fact
abbrev pub keys_about : PlanView → Touch → List Touch
keys_about plan fact = fact ∷ holder_keys plan fact
