-- The last of some numbered members, and whether it is among those from a place on.
use Rattle.std.proofs.Common.{◌≡◌, ◌∙◌, ℕ, zero, suc, ◌+◌, ◌≤◌, ◌||◌, Bool, true, false, List, [], ◌∷◌, ◌++◌, Option, Some, None, drop, length, nat_le, nat_lt, refl, ap, arith, if◌then◌else◌, IfSome}
use Rattle.std.specs.Option.{option_or, option_map_or}
use Rattle.std.specs.List.{list_any}
use Rattle.std.proofs.lemmas.Bool.Decides.{nat_tests}
use Rattle.acceptors.specs.Recent.{last_where}

-- whether a number is there and at least n
abbrev pub is_from : ℕ → Option ℕ → Bool
is_from n found = option_map_or (nat_le n) found false

pub lt_le : (k s : ℕ) → nat_lt k s ≡ nat_le (1 + k) s
lt_le k s = grind (arith, nat_tests)

-- the last one, if any, has a number from n on
pub numbered_from : {A : Type 0} (test : A → Bool) (n : ℕ) (xs : List A) → IfSome (last_where test n xs) (λ s. n ≤ s)
numbered_from test n [] = tt
numbered_from test n (x ∷ xs) =
    elim (last_where test (n + 1) xs) as (λ o. IfSome o (λ s. n + 1 ≤ s) → IfSome (option_or o (if test x then Some n else None)) (λ s. n ≤ s)) [
      | Some s ↦ λ h. omega (arith, h)
      | None ↦ λ h. elim (test x) as (λ b. IfSome (if b then Some n else None) (λ s. n ≤ s)) [ true ↦ omega arith | false ↦ tt ]
    ] (numbered_from test (n + 1) xs)

-- one member more in front, which counts
with_first : (b a : Bool) (n : ℕ) (later : Option ℕ) → IfSome later (λ s. n + 1 ≤ s) → a ≡ is_from (n + 1 + 0) later → (b || a) ≡ is_from (n + 0) (option_or later (if b then Some n else None))
with_first true a n (Some s) h e = grind (arith, nat_tests)
with_first false a n (Some s) h e = e ∙ grind (arith, nat_tests)
with_first true a n None h e = grind (arith, nat_tests)
with_first false a n None h e = e

-- one member more in front, which doesn't count
without_first : (b a : Bool) (n k : ℕ) (later : Option ℕ) → a ≡ is_from (n + 1 + k) later → a ≡ is_from (n + suc k) (option_or later (if b then Some n else None))
without_first b a n k (Some s) e = e ∙ grind (arith, nat_tests)
without_first true a n k None e = e ∙ grind (arith, nat_tests)
without_first false a n k None e = e

-- some member from a place on passes the test exactly where the last one that passes it has such a number
pub any_from : {A : Type 0} (test : A → Bool) (n k : ℕ) (xs : List A) → list_any test (drop k xs) ≡ is_from (n + k) (last_where test n xs)
any_from test n zero [] = refl
any_from test n (suc k) [] = refl
any_from test n zero (x ∷ xs) = with_first (test x) (list_any test xs) n (last_where test (n + 1) xs) (numbered_from test (n + 1) xs) (any_from test (n + 1) zero xs)
any_from test n (suc k) (x ∷ xs) = without_first (test x) (list_any test (drop k xs)) n k (last_where test (n + 1) xs) (any_from test (n + 1) k xs)

-- one member more at the end
pub last_where-push : {A : Type 0} (test : A → Bool) (n : ℕ) (xs : List A) (x : A) → last_where test n (xs ++ x ∷ []) ≡ (if test x then Some (n + length xs) else last_where test n xs)
last_where-push test n [] x = elim (test x) as (λ b. option_or None (if b then Some n else None) ≡ (if b then Some (n + 0) else None)) [ true ↦ ap (λ m. Some m) (omega arith) | false ↦ refl ]
last_where-push test n (y ∷ ys) x =
    ap (λ later. option_or later (if test y then Some n else None)) (last_where-push test (n + 1) ys x)
    ∙ elim (test x) as (λ b. option_or (if b then Some (n + 1 + length ys) else last_where test (n + 1) ys) (if test y then Some n else None) ≡ (if b then Some (n + suc (length ys)) else option_or (last_where test (n + 1) ys) (if test y then Some n else None))) [ true ↦ ap (λ m. Some m) (omega arith) | false ↦ refl ]
