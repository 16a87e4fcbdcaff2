-- Totals over the views of all passes.
use Rattle.std.proofs.Common.{◌≡◌, ℕ, zero, suc, ◌+◌, ◌≤◌, List, [], ◌∷◌, ◌++◌, set, refl, sym, ap, arith}
use mathlib.Core.Option.{some, some-ne-none, some-injective}
use lib.ListN.{get_elem?}
use Rattle.claim_board.specs.declared.claims.Claims.{Claims}
use Rattle.claim_board.specs.Claims.{total}

pub total-set : (f : Claims → ℕ) (views : List Claims) (i : ℕ) (v w : Claims) → get_elem? views i ≡ some v → total f (set views i w) + f v ≡ total f views + f w
total-set f [] i v w at = absurd (some-ne-none v (sym at))
total-set f (x ∷ xs) zero v w at = let e : f x ≡ f v = ap f (some-injective x v at) in omega arith
total-set f (x ∷ xs) (suc i) v w at = let e = total-set f xs i v w at in omega arith

pub total-snoc : (f : Claims → ℕ) (views : List Claims) (v : Claims) → total f (views ++ v ∷ []) ≡ total f views + f v
total-snoc f [] v = omega arith
total-snoc f (x ∷ xs) v = let e = total-snoc f xs v in omega arith

pub total-at : (f : Claims → ℕ) (views : List Claims) (i : ℕ) (v : Claims) → get_elem? views i ≡ some v → f v ≤ total f views
total-at f [] i v at = absurd (some-ne-none v (sym at))
total-at f (x ∷ xs) zero v at = let e : f x ≡ f v = ap f (some-injective x v at) in omega arith
total-at f (x ∷ xs) (suc i) v at = let e = total-at f xs i v at in omega arith

pub total-le : (f g : Claims → ℕ) (views : List Claims) → ((j : ℕ) (v : Claims) → get_elem? views j ≡ some v → f v ≤ g v) → total f views ≤ total g views
total-le f g [] h = omega arith
total-le f g (x ∷ xs) h = let e = total-le f g xs (λ j v at. h (suc j) v at) in let t = h 0 x refl in omega arith

-- where one view has all of g, and views without g have no f, that view has all of f
pub total_of_one : (f g : Claims → ℕ) (views : List Claims) (i : ℕ) (v : Claims) → get_elem? views i ≡ some v → total g views ≤ g v
    → ((j : ℕ) (u : Claims) → get_elem? views j ≡ some u → g u ≡ 0 → f u ≡ 0) → total f views ≡ f v
total_of_one f g [] i v at le none = absurd (some-ne-none v (sym at))
total_of_one f g (x ∷ xs) zero v at le none =
    let e : g x ≡ g v = ap g (some-injective x v at) in
    let e' : f x ≡ f v = ap f (some-injective x v at) in
    let t = total_of_none f g xs (omega arith) (λ j u a. none (suc j) u a) in omega arith
  where
    total_of_none : (f g : Claims → ℕ) (views : List Claims) → total g views ≡ 0 → ((j : ℕ) (u : Claims) → get_elem? views j ≡ some u → g u ≡ 0 → f u ≡ 0) → total f views ≡ 0
    total_of_none f g [] z h = refl
    total_of_none f g (y ∷ ys) z h = let a = h 0 y refl (omega arith) in let b = total_of_none f g ys (omega arith) (λ j u k. h (suc j) u k) in omega arith
total_of_one f g (x ∷ xs) (suc i) v at le none =
    let m = total-at g xs i v at in
    let t = total_of_one f g xs i v at (omega arith) (λ j u a. none (suc j) u a) in
    let z = none 0 x refl (omega arith) in omega arith
