-- Lists of drawn numbers.
use Rattle.std.proofs.Common.{◌≡◌, ℕ, zero, suc, ◌+◌, ◌<◌, ◌≤◌, min, List, [], ◌∷◌, ◌++◌, length, get_or, refl, ap, ◌∙◌, All, length-append, arith}
use Rattle.std.proofs.Math.ListN.{get_or-append}
use Rattle.std.proofs.Math.Seq.{get_or-append_seam}
use Rattle.std.proofs.lemmas.Bool.Decides.{nat_tests}
use Rattle.std.specs.List.Sorted.{IsStrictlyIncreasing}
use native.Mathlib.Decide.{dec_le}
use Rattle.claim_board.specs.Boards.{times, once_below, next_after}

pub times-append : (x : ℕ) (xs ys : List ℕ) → times x (xs ++ ys) ≡ times x xs + times x ys
times-append x [] ys = omega arith
times-append x (z ∷ xs) ys = let e = times-append x xs ys in omega arith

-- a member of the list stands in it
times_of_member : (xs : List ℕ) (k d : ℕ) → k < length xs → 0 < times (get_or xs k d) xs
times_of_member [] k d lt = absurd (omega arith)
times_of_member (x ∷ xs) zero d lt = grind (arith, nat_tests)
times_of_member (x ∷ xs) (suc k) d lt = let t = times_of_member xs k d (omega arith) in omega arith

below_of_once : (x n : ℕ) → 0 < once_below x n → x < n
below_of_once x n h = grind (arith, nat_tests)

-- where no number from n up stands in the list, all of it is below n
pub below_of_times : (n : ℕ) (xs : List ℕ) → ((x : ℕ) → times x xs ≤ once_below x n) → All (λ x. x < n) xs
below_of_times n xs h = λ k d lt. let t = times_of_member xs k d lt in let u = h (get_or xs k d) in below_of_once (get_or xs k d) n (omega arith)

-- a list with a greater number at its end still increases
pub increasing-snoc : (xs : List ℕ) (n : ℕ) → All (λ x. x < n) xs → IsStrictlyIncreasing xs → IsStrictlyIncreasing (xs ++ n ∷ [])
increasing-snoc xs n below up = λ k lt.
    let len = length-append xs (n ∷ []) in
    let here : get_or (xs ++ n ∷ []) k 0 ≡ get_or xs k 0 = get_or-append xs (n ∷ []) 0 k (omega arith) in
    elim (dec_le (suc (suc k)) (length xs)) [
      | yes inside ↦ (let next = get_or-append xs (n ∷ []) 0 (k + 1) (omega arith) in let u = up k (omega arith) in omega arith)
      | no last ↦ (let seam = get_or-append_seam xs n [] 0 in
          let at : get_or (xs ++ n ∷ []) (k + 1) 0 ≡ n = ap (λ j. get_or (xs ++ n ∷ []) j 0) (let e : k + 1 ≡ length xs = omega arith in e) ∙ seam in
          let u = below k 0 (omega arith) in omega arith)
    ]

pub next_after-snoc : (xs : List ℕ) (n : ℕ) → next_after (xs ++ n ∷ []) ≡ n + 1
next_after-snoc [] n = refl
next_after-snoc (x ∷ []) n = refl
next_after-snoc (x ∷ y ∷ ys) n = next_after-snoc (y ∷ ys) n

pub next_after-le : (xs : List ℕ) (n : ℕ) → All (λ x. x < n) xs → next_after xs ≤ n
next_after-le [] n below = omega arith
next_after-le (x ∷ []) n below = let lt = below 0 0 (omega arith) in omega arith
next_after-le (x ∷ y ∷ ys) n below = next_after-le (y ∷ ys) n (λ k d lt. below (suc k) d (omega arith))

-- one number more below the limit
pub once_below-suc : (x n limit : ℕ) → n < limit → once_below x (min (n + 1) limit) ≡ once_below x (min n limit) + times x (n ∷ [])
once_below-suc x n limit lt = let e : min (n + 1) limit ≡ n + 1 = omega arith in let e' : min n limit ≡ n = omega arith in rw (e, e') (grind (arith, nat_tests))

-- no number more from the limit on
pub once_below-past : (x n limit : ℕ) → limit ≤ n → once_below x (min (n + 1) limit) ≡ once_below x (min n limit)
once_below-past x n limit le = let e : min (n + 1) limit ≡ limit = omega arith in let e' : min n limit ≡ limit = omega arith in rw (e, e') refl
