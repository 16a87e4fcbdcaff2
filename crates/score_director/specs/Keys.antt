-- The keys of all records of a plan.
use Rattle.std.specs.Prelude.{ℕ, List, length, map}
use Rattle.std.specs.List.{flat_map, range_with_len}
use Rattle.plan_facts.specs.Plan.{PlanView, ids_of}
use Rattle.plan_moves.specs.declared.edit.Touch.{Touch}

-- the keys of the records of a class
abbrev pub keys_in : PlanView → ℕ → List Touch
keys_in plan class = map (λ id. record { class = class; id = id }) (ids_of plan class)

-- the keys of all records, class by class
abbrev pub all_keys : PlanView → List Touch
all_keys plan = flat_map (keys_in plan) (range_with_len 0 (length plan.classes))
