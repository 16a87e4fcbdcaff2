-- The first member at which a test passes, and its place.
use Rattle.std.proofs.Common.{◌≡◌, ◌∙◌, ◌<◌, ◌≤◌, ◌+◌, ℕ, zero, suc, Bool, true, false, cond, List, [], ◌∷◌, ◌++◌, Some, None, map, length, get_or, slice_get, take, drop, refl, sym, ap, arith, add-one}
use Rattle.std.specs.Prelude.{position, find}
use Rattle.std.proofs.lemmas.Bool.Decides.{nat_tests}
use Rattle.std.proofs.lemmas.List.{length-map, map-append}
use Rattle.std.proofs.Math.Seq.{take-suc}

-- from a place on the first is that member, or one behind it
pub find_at : {X : Type 0} (p : X → Bool) (xs : List X) (k : ℕ) (x : X) → slice_get xs k ≡ Some x → find p (drop k xs) ≡ cond (p x) (Some x) (find p (drop (k + 1) xs))
find_at {X = X} p xs k x at = go xs k at ∙ ap (λ n. cond (p x) (Some x) (find p (drop n xs))) (sym (add-one k))
  where
    go : (ys : List X) (n : ℕ) → slice_get ys n ≡ Some x → find p (drop n ys) ≡ cond (p x) (Some x) (find p (drop (suc n) ys))
    go [] n at = cc
    go (y ∷ ys) zero at = let e : y ≡ x = cc in ap (λ z. cond (p z) (Some z) (find p ys)) e
    go (y ∷ ys) (suc n) at = go ys n at

-- past the end there is none
pub find_past : {X : Type 0} (p : X → Bool) (xs : List X) (k : ℕ) → length xs ≤ k → find p (drop k xs) ≡ None
find_past p [] zero h = refl
find_past p [] (suc k) h = refl
find_past p (x ∷ xs) zero h = absurd (omega arith)
find_past p (x ∷ xs) (suc k) h = find_past p xs k (omega arith)

-- the place of the first member that passes, where none before it does
pub position_at : {X : Type 0} (p : X → Bool) (xs : List X) (k : ℕ) (d : X) → k < length xs → ((i : ℕ) → i < k → p (get_or xs i d) ≡ false) → p (get_or xs k d) ≡ true → position p xs ≡ Some k
position_at p [] k d within earlier here = absurd (omega arith)
position_at p (x ∷ xs) zero d within earlier here = grind (arith, nat_tests)
position_at p (x ∷ xs) (suc k) d within earlier here =
    let first : p x ≡ false = earlier 0 (omega arith) in
    let rest : position p xs ≡ Some k = position_at p xs k d (omega arith) (λ i h. earlier (suc i) (omega arith)) here in
    grind (arith, nat_tests, first, rest)

-- there is no place where no member passes
pub position_none : {X : Type 0} (p : X → Bool) (xs : List X) (d : X) → ((i : ℕ) → i < length xs → p (get_or xs i d) ≡ false) → position p xs ≡ None
position_none p [] d none = refl
position_none p (x ∷ xs) d none =
    let first : p x ≡ false = none 0 (omega arith) in
    let rest : position p xs ≡ None = position_none p xs d (λ i h. none (suc i) (omega arith)) in
    grind (arith, nat_tests, first, rest)

-- the image of a place
pub get_or-image : {X Y : Type 0} (f : X → Y) (xs : List X) (k : ℕ) (d : X) (e : Y) → k < length xs → get_or (map f xs) k e ≡ f (get_or xs k d)
get_or-image f [] k d e within = absurd (omega arith)
get_or-image f (x ∷ xs) zero d e within = refl
get_or-image f (x ∷ xs) (suc k) d e within = get_or-image f xs k d e (omega arith)

-- the images of one member more
pub map_take-push : {X Y : Type 0} (f : X → Y) (xs : List X) (k : ℕ) (d : X) → k < length xs → map f (take (k + 1) xs) ≡ map f (take k xs) ++ f (get_or xs k d) ∷ []
map_take-push f xs k d within =
    ap (λ n. map f (take n xs)) (add-one k) ∙ ap (map f) (take-suc xs k d within) ∙ map-append f (take k xs) (get_or xs k d ∷ [])

-- the image of a member that stands at a place
pub get_or-at : {X Y : Type 0} (f : X → Y) (xs : List X) (k : ℕ) (x : X) (e : Y) → k < length xs → x ≡ get_or xs k x → get_or (map f xs) k e ≡ f x
get_or-at f xs k x e within is = get_or-image f xs k x e within ∙ ap f (sym is)

pub length-map-lt : {X Y : Type 0} (f : X → Y) (xs : List X) (k : ℕ) → k < length xs → k < length (map f xs)
length-map-lt f xs k h = omega (arith, length-map xs f)

pub length-map-le : {X Y : Type 0} (f : X → Y) (xs : List X) (i k : ℕ) → i < length (map f xs) → length xs ≤ k → i < k
length-map-le f xs i k h past = omega (arith, length-map xs f)
