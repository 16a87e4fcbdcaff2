-- The first place at which a test passes, in lists that are put together.
use Rattle.std.proofs.Common.{◌≡◌, ◌∙◌, ℕ, suc, ◌+◌, ◌<◌, ◌≤◌, Bool, true, false, not, cond, List, [], ◌∷◌, ◌++◌, length, take, drop, Some, None, refl, sym, ap, arith}
use Rattle.std.specs.List.{position, position_or_len}
use Rattle.std.proofs.lemmas.Bool.{lt-ltb, le-ltb, ltb-true, ltb-false}
use Rattle.std.proofs.lemmas.List.{take-append-drop, length-drop, length-take-le}
use Rattle.std.proofs.lemmas.List.Sums.{prefix_len-le-length}

-- where the test passes nowhere in the first list, the place lies in the second one
pub place_later : {X : Type 0} (p : X → Bool) (xs ys : List X) → position_or_len p xs ≡ length xs → position_or_len p (xs ++ ys) ≡ length xs + position_or_len p ys
place_later p [] ys none = omega arith
place_later p (x ∷ xs) ys none = by_head (p x) (λ e. place_later p xs ys e) none
  where
    by_head : (b : Bool) → (position_or_len p xs ≡ length xs → position_or_len p (xs ++ ys) ≡ length xs + position_or_len p ys) → cond (not b) (1 + position_or_len p xs) 0 ≡ suc (length xs) → cond (not b) (1 + position_or_len p (xs ++ ys)) 0 ≡ suc (length xs) + position_or_len p ys
    by_head true ih e = absurd (omega arith)
    by_head false ih e = let later : position_or_len p (xs ++ ys) ≡ length xs + position_or_len p ys = ih (omega arith) in omega arith

-- where it passes in the first list, the place lies there
pub place_here : {X : Type 0} (p : X → Bool) (xs ys : List X) → position_or_len p xs < length xs → position_or_len p (xs ++ ys) ≡ position_or_len p xs
place_here p [] ys some = absurd (omega arith)
place_here p (x ∷ xs) ys some = by_head (p x) (λ e. place_here p xs ys e) some
  where
    by_head : (b : Bool) → (position_or_len p xs < length xs → position_or_len p (xs ++ ys) ≡ position_or_len p xs) → cond (not b) (1 + position_or_len p xs) 0 < suc (length xs) → cond (not b) (1 + position_or_len p (xs ++ ys)) 0 ≡ cond (not b) (1 + position_or_len p xs) 0
    by_head true ih e = refl
    by_head false ih e = let later : position_or_len p (xs ++ ys) ≡ position_or_len p xs = ih (omega arith) in omega arith

none_past : {X : Type 0} (b : Bool) (i : X) → cond b (Some i) None ≡ None → b ≡ false
none_past true i e = cc
none_past false i e = refl

some_below : {X : Type 0} (b : Bool) (i j : X) → cond b (Some i) None ≡ Some j → (b ≡ true) × (i ≡ j)
some_below true i j e = (refl, cc)
some_below false i j e = cc

-- the test passes nowhere
pub place_of_none : {X : Type 0} (p : X → Bool) (xs : List X) → position p xs ≡ None → position_or_len p xs ≡ length xs
place_of_none p xs e =
    let past = ltb-false _ _ (none_past _ _ e) in
    let within : position_or_len p xs ≤ length xs = prefix_len-le-length (λ x. not (p x)) xs in
    omega (arith, past, within)

pub none_of_place : {X : Type 0} (p : X → Bool) (xs : List X) → position_or_len p xs ≡ length xs → position p xs ≡ None
none_of_place p xs e = ap (λ b. cond b (Some (position_or_len p xs)) None) (le-ltb (position_or_len p xs) (length xs) (omega arith))

-- the test passes first there
pub place_of_some : {X : Type 0} (p : X → Bool) (xs : List X) (i : ℕ) → position p xs ≡ Some i → (position_or_len p xs ≡ i) × (i < length xs)
place_of_some p xs i e =
    let parts = some_below _ _ _ e in
    let below : position_or_len p xs < length xs = ltb-true _ _ parts.0 in
    let same : position_or_len p xs ≡ i = parts.1 in
    (same, omega arith)

pub some_of_place : {X : Type 0} (p : X → Bool) (xs : List X) (i : ℕ) → position_or_len p xs ≡ i → i < length xs → position p xs ≡ Some i
some_of_place p xs i e within =
    ap (λ b. cond b (Some (position_or_len p xs)) None) (lt-ltb (position_or_len p xs) (length xs) (omega arith)) ∙ ap (λ k. Some k) e

-- where it passes nowhere before a place, the first place is found from there on
pub found_from : {X : Type 0} (p : X → Bool) (xs : List X) (k i : ℕ) → k ≤ length xs → position p (take k xs) ≡ None → position p (drop k xs) ≡ Some i → position p xs ≡ Some (k + i)
found_from p xs k i within before found =
    let size = length-take-le k xs within in
    let rest = length-drop k xs in
    let at = place_of_some p (drop k xs) i found in
    let later = place_later p (take k xs) (drop k xs) (place_of_none p (take k xs) before) in
    let here = ap (position_or_len p) (sym (take-append-drop k xs)) in
    some_of_place p xs (k + i) (omega (arith, size, later, here, at.0)) (omega (arith, rest, at.1))

pub none_from : {X : Type 0} (p : X → Bool) (xs : List X) (k : ℕ) → k ≤ length xs → position p (take k xs) ≡ None → position p (drop k xs) ≡ None → position p xs ≡ None
none_from p xs k within before rest_none =
    let size = length-take-le k xs within in
    let rest = length-drop k xs in
    let at = place_of_none p (drop k xs) rest_none in
    let later = place_later p (take k xs) (drop k xs) (place_of_none p (take k xs) before) in
    let here = ap (position_or_len p) (sym (take-append-drop k xs)) in
    none_of_place p xs (omega (arith, size, later, here, at, rest))
