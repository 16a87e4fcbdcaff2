-- Numbers from some number on.
use Rattle.std.proofs.Common.{◌≡◌, ◌∙◌, ◌+◌, ℕ, zero, suc, [], ◌∷◌, ◌++◌, ap, arith}
use Rattle.std.specs.List.{range_with_len}

next_number : (a n : ℕ) → range_with_len a (suc n) ≡ range_with_len a n ++ (a + n) ∷ []
next_number a zero = ap (λ m. m ∷ []) (let e : a ≡ a + 0 = omega arith in e)
next_number a (suc n) =
    let e : (a + 1) + n ≡ a + suc n = omega arith in
    ap (λ ms. a ∷ ms) (next_number (a + 1) n ∙ ap (λ m. range_with_len (a + 1) n ++ m ∷ []) e)

-- one number more
pub range_more : (a n : ℕ) → range_with_len a (n + 1) ≡ range_with_len a n ++ (a + n) ∷ []
range_more a n = ap (range_with_len a) (let e : n + 1 ≡ suc n = omega arith in e) ∙ next_number a n
