-- Values under the numbers that have no place.
use Rattle.std.proofs.Common.{◌≡◌, ℕ, ◌≤◌, ◌==◌, nat_lt, if◌then◌else◌, Bool, true, false, List, Option, Some, refl, sym, ap, arith}
use Rattle.std.specs.Map.{lookup}
use Rattle.plan_settings.specs.declared.settings.TheConstants.{SIZE_LIMIT}
use Rattle.search_core.specs.ByNumber.{AreSame, place_in, value_at, with_value}

-- such a number gets a value
pub other-with : {A : Type 0} (places : List (Option A)) (old new : List (ℕ × A)) (number : ℕ) (v : A) → SIZE_LIMIT ≤ number
    → ((n : ℕ) → lookup (λ m. n == m) new ≡ (if number == n then Some v else lookup (λ m. n == m) old))
    → AreSame (value_at (record { places = places; others = new })) (with_value (value_at (record { places = places; others = old })) number v)
other-with places old new number v le goes n =
    elim (nat_lt n SIZE_LIMIT) as (λ (b : Bool). (b ≡ nat_lt n SIZE_LIMIT) → (if b then place_in places n else lookup (λ m. n == m) new) ≡ (if number == n then Some v else (if b then place_in places n else lookup (λ m. n == m) old))) [
      | true ↦ λ e. let other : (number == n) ≡ false = grind arith in sym (ap (λ (c : Bool). if c then Some v else place_in places n) other)
      | false ↦ λ e. goes n
    ] refl
