-- The first fault of a list, each member being judged with those before it.
use Rattle.std.specs.Prelude.{Bool, if◌then◌else◌, List, [], ◌∷◌, ◌++◌, Option, Some, None}
use Rattle.std.specs.Option.{option_or}

-- a fault where a test holds
abbrev pub fault_where : {F : Type 0} → Bool → F → Option F
fault_where test fault = if test then Some fault else None

-- a fault unless a test holds
abbrev pub fault_unless : {F : Type 0} → Bool → F → Option F
fault_unless test fault = if test then None else Some fault

-- the first fault among the members of the second list; the first list has the members that stand before them
abbrev pub first_fault : {A F : Type 0} → (List A → A → Option F) → List A → List A → Option F
first_fault fault_of earlier [] = None
first_fault fault_of earlier (x ∷ rest) = option_or (fault_of earlier x) (first_fault fault_of (earlier ++ x ∷ []) rest)
