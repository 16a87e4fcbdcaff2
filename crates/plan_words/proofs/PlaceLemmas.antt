-- Whether an element passes a test, and the place of the first that does.
use Rattle.std.proofs.Common.{◌≡◌, ℕ, suc, ◌+◌, ◌<◌, Bool, true, false, not, ◌||◌, cond, List, [], ◌∷◌, length, refl, arith}
use Rattle.std.specs.List.{list_any, position_or_len}

found_step : (here later : Bool) (place count : ℕ) → cond (not here) (1 + place) 0 < suc count → (place < count → later ≡ true) → (here || later) ≡ true
found_step true later place count below rest = refl
found_step false later place count below rest = rest (omega arith)

-- where the first place is inside the list, an element passes
pub list_any-found : {X : Type 0} (p : X → Bool) (xs : List X) → position_or_len p xs < length xs → list_any p xs ≡ true
list_any-found p [] below = absurd (omega arith)
list_any-found p (x ∷ xs) below = found_step (p x) (list_any p xs) (position_or_len p xs) (length xs) below (list_any-found p xs)

absent_step : (here later : Bool) (place count : ℕ) → cond (not here) (1 + place) 0 ≡ suc count → (place ≡ count → later ≡ false) → (here || later) ≡ false
absent_step true later place count at_end rest = absurd (omega arith)
absent_step false later place count at_end rest = rest (omega arith)

-- where it is the list's length, none does
pub list_any-absent : {X : Type 0} (p : X → Bool) (xs : List X) → position_or_len p xs ≡ length xs → list_any p xs ≡ false
list_any-absent p [] at_end = refl
list_any-absent p (x ∷ xs) at_end = absent_step (p x) (list_any p xs) (position_or_len p xs) (length xs) at_end (list_any-absent p xs)
