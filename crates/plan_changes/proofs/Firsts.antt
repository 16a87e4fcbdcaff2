-- The place of the first member at which a test passes.
use Rattle.std.proofs.Common.{◌≡◌, ◌<◌, ℕ, zero, suc, Bool, true, false, List, [], ◌∷◌, Some, None, length, get_or, refl, arith}
use Rattle.std.specs.Prelude.{position}
use Rattle.std.proofs.lemmas.Bool.Decides.{nat_tests}

-- the place of the first member that passes, where none before it does
pub position_at : {X : Type 0} (p : X → Bool) (xs : List X) (k : ℕ) (d : X) → k < length xs → ((i : ℕ) → i < k → p (get_or xs i d) ≡ false) → p (get_or xs k d) ≡ true → position p xs ≡ Some k
position_at p [] k d within earlier here = absurd (omega arith)
position_at p (x ∷ xs) zero d within earlier here = grind (arith, nat_tests)
position_at p (x ∷ xs) (suc k) d within earlier here =
    let first : p x ≡ false = earlier 0 (omega arith) in
    let rest : position p xs ≡ Some k = position_at p xs k d (omega arith) (λ i h. earlier (suc i) (omega arith)) here in
    grind (arith, nat_tests, first, rest)

-- there is no place where no member passes
pub position_none : {X : Type 0} (p : X → Bool) (xs : List X) (d : X) → ((i : ℕ) → i < length xs → p (get_or xs i d) ≡ false) → position p xs ≡ None
position_none p [] d none = refl
position_none p (x ∷ xs) d none =
    let first : p x ≡ false = none 0 (omega arith) in
    let rest : position p xs ≡ None = position_none p xs d (λ i h. none (suc i) (omega arith)) in
    grind (arith, nat_tests, first, rest)
