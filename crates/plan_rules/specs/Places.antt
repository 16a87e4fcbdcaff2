-- Where numbers stand, by a table.
use Rattle.std.specs.Prelude.{◌≡◌, ◌==◌, ℕ, List, Option, None, position, slice_index_or}

-- what the table has at a number
abbrev pub place_of : List (Option ℕ) → ℕ → Option ℕ
place_of table n = slice_index_or table n None

-- the table has at each number the first place at which it stands
abbrev pub ArePlaces : List ℕ → List (Option ℕ) → Type 0
ArePlaces numbers table = (n : ℕ) → place_of table n ≡ position (λ number. number == n) numbers
