-- The keys of rows, and what collectors make of numbers.
use Rattle.std.specs.Prelude.{ℤ, List, [], ◌∷◌}
use Rattle.plan_rules.specs.Groups.{key_entered}

-- some keys, each once, increasing
abbrev pub keys_entered : List (List ℤ) → List (List ℤ)
keys_entered [] = []
keys_entered (key ∷ rest) = key_entered key (keys_entered rest)
