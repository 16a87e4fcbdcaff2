use Rattle.std.specs.Prelude.{◌≡◌, ℕ, ◌≤◌, None}
use Rattle.std.specs.Ordering.{nat_cmp}
use Rattle.std.specs.FinMap as map

-- no place from this one on is taken
abbrev pub IsFreeFrom : {T : Type 0} → ℕ → map.FinMap nat_cmp T → Type 0
IsFreeFrom first places = (q : ℕ) → first ≤ q → map.get places q ≡ None
