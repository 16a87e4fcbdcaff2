-- What is kept by number: for each number a value, or none.
use Rattle.std.specs.Prelude.{◌≡◌, ℕ, ◌==◌, nat_lt, if◌then◌else◌, List, Option, Some, None, slice_get}
use Rattle.std.specs.Map.{lookup}
use Rattle.std.specs.Option.{option_and_then}
use Rattle.plan_settings.specs.declared.settings.TheConstants.{SIZE_LIMIT}

-- the places of the low numbers, and the other values with their numbers
pub record Held (A : Type 0) : Type 0 where
  pub places : List (Option A)
  pub others : List (ℕ × A)

-- the value in a number's place, if there is one
abbrev pub place_in : {A : Type 0} → List (Option A) → ℕ → Option A
place_in places n = option_and_then (λ value. value) (slice_get places n)

-- the value under a number, if there is one
abbrev pub value_at : {A : Type 0} → Held A → ℕ → Option A
value_at held n =
    if nat_lt n SIZE_LIMIT then place_in held.places n else lookup (λ number. n == number) held.others

-- nothing is kept
abbrev pub nothing : {A : Type 0} → ℕ → Option A
nothing n = None

-- a number gets a value, and the others keep theirs
abbrev pub with_value : {A : Type 0} → (ℕ → Option A) → ℕ → A → ℕ → Option A
with_value kept number value n = if number == n then Some value else kept n

-- the same is kept under every number
abbrev pub AreSame : {A : Type 0} → (ℕ → Option A) → (ℕ → Option A) → Type 0
AreSame kept other = (n : ℕ) → kept n ≡ other n

-- a number gets a value, and the others keep theirs, between what was kept and what is
abbrev pub GetsValue : {A : Type 0} → (ℕ → Option A) → ℕ → A → (ℕ → Option A) → Type 0
GetsValue old number value new = AreSame new (with_value old number value)
