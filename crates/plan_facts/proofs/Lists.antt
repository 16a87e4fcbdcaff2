-- Lists are told apart by their members, and read from a place on.
use Rattle.std.proofs.Common.{◌≡◌, ◌∙◌, ℕ, suc, ◌+◌, ◌<◌, zero, List, [], ◌∷◌, Option, Some, None, drop, zip, set, get_or, slice_get, length, refl, ap, sym, arith}
use Rattle.std.proofs.lemmas.List.{drop_more}
use Rattle.std.proofs.lemmas.Option.{slice_get_within, get_or_from_slice_get}
use Rattle.std.specs.Prelude.{All, IfSome, option_copied}
use denote.Ref.{Bor}

some_same : {A : Type 0} {x y : A} → Some x ≡ Some y → x ≡ y
some_same e = cc

-- lists of one length with the same member at each place are one
pub same_lists : {A : Type 0} (xs ys : List A) → length xs ≡ length ys → ((k : ℕ) → k < length xs → slice_get xs k ≡ slice_get ys k) → xs ≡ ys
same_lists [] [] e h = refl
same_lists [] (y ∷ ys) e h = absurd (omega arith)
same_lists (x ∷ xs) [] e h = absurd (omega arith)
same_lists (x ∷ xs) (y ∷ ys) e h = λ i. some_same (h 0 (omega arith)) i ∷ same_lists xs ys (omega arith) (λ k lt. h (suc k) (omega arith)) i

-- a pair whose second member is set
pub zip-set : {A B : Type 0} (xs : List A) (ys : List B) (k : ℕ) (d : A) (y : B) → zip xs (set ys k y) ≡ set (zip xs ys) k (get_or xs k d, y)
zip-set [] ys k d y = refl
zip-set (x ∷ xs) [] k d y = refl
zip-set (x ∷ xs) (z ∷ ys) zero d y = refl
zip-set {A} {B} (x ∷ xs) (z ∷ ys) (suc k) d y = ap (λ (pairs : List (A × B)). (x, z) ∷ pairs) (zip-set xs ys k d y)

-- what is left of a list from a place on begins with the member at that place
pub drop-member : {A : Type 0} (xs : List A) (k : ℕ) (x : A) → slice_get xs k ≡ Some x → drop k xs ≡ x ∷ drop (k + 1) xs
drop-member xs k x at = drop_more xs k x (slice_get_within xs k x at) ∙ ap (λ y. y ∷ drop (k + 1) xs) (get_or_from_slice_get xs k x x at)

-- what holds of every member holds of the one that is given
pub IfSome-member : {A : Type 0} (P : A → Type 0) (xs : List A) (k : ℕ) (r : Option (Bor A)) → option_copied r ≡ slice_get xs k → All P xs → IfSome r (λ x. P x.now)
IfSome-member P xs k None at all = tt
IfSome-member P xs k (Some x) at all =
    let is : slice_get xs k ≡ Some x.now = sym at in
    rw (get_or_from_slice_get xs k x.now x.now is) at (all k x.now (slice_get_within xs k x.now is))
