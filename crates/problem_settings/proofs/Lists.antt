-- Lists of what a call gives of each member, and what a test finds.
use Rattle.std.proofs.Common.{◌≡◌, ◌∙◌, ℕ, suc, ◌+◌, ◌<◌, List, [], ◌∷◌, ◌++◌, Bool, true, false, cond, ◌&&◌, map, length, take, drop, get_or, Option, Some, None, find, option_map, is_some, is_none, refl, ap, sym}
use Rattle.std.specs.List.{list_all, filter_map, cons_option}
use Rattle.std.specs.Option.{option_or}
use Rattle.std.proofs.Math.Seq.{drop-cons}
use Rattle.std.proofs.lemmas.List.{take_more, take-append-drop, append-nil}
use Rattle.std.proofs.lemmas.List.Elements.{filter_map-append}
use Rattle.std.proofs.lemmas.List.Folds.{find-append}

-- the members so far and one more
one_more : {A : Type 0} (xs : List A) (i : ℕ) (x : A) → i < length xs → x ≡ get_or xs i x → take (i + 1) xs ≡ take i xs ++ x ∷ []
one_more xs i x below is = take_more xs i x below ∙ ap (λ y. take i xs ++ y ∷ []) (sym is)

single_some : {A B : Type 0} (h : A → Option B) (x : A) (y : B) → h x ≡ Some y → filter_map h (x ∷ []) ≡ y ∷ []
single_some h x y e = ap (λ o. cons_option o []) e

single_none : {A B : Type 0} (h : A → Option B) (x : A) → h x ≡ None → filter_map h (x ∷ []) ≡ []
single_none h x e = ap (λ o. cons_option o []) e

-- what is given of one member more comes last
pub filter_map-given : {A B : Type 0} (h : A → Option B) (xs : List A) (i : ℕ) (x : A) (y : B) → i < length xs → x ≡ get_or xs i x → h x ≡ Some y
    → filter_map h (take (i + 1) xs) ≡ filter_map h (take i xs) ++ y ∷ []
filter_map-given h xs i x y below is e =
    ap (filter_map h) (one_more xs i x below is) ∙ filter_map-append h (take i xs) (x ∷ []) ∙ ap (λ ys. filter_map h (take i xs) ++ ys) (single_some h x y e)

-- a member of which nothing is given changes nothing
pub filter_map-not_given : {A B : Type 0} (h : A → Option B) (xs : List A) (i : ℕ) (x : A) → i < length xs → x ≡ get_or xs i x → h x ≡ None
    → filter_map h (take (i + 1) xs) ≡ filter_map h (take i xs)
filter_map-not_given h xs i x below is e =
    ap (filter_map h) (one_more xs i x below is) ∙ filter_map-append h (take i xs) (x ∷ []) ∙ ap (λ ys. filter_map h (take i xs) ++ ys) (single_none h x e) ∙ append-nil (filter_map h (take i xs))

-- what is given of each member of a list that was made member by member
pub filter_map-map : {A B C : Type 0} (f : A → B) (h : B → Option C) (xs : List A) → filter_map h (map f xs) ≡ filter_map (λ x. h (f x)) xs
filter_map-map f h [] = refl
filter_map-map f h (x ∷ xs) = rw (filter_map-map f h xs) refl

-- a test that passes over the members so far and one more finds none of them
pub find-passed : {A : Type 0} (p : A → Bool) (xs : List A) (i : ℕ) (x : A) → i < length xs → x ≡ get_or xs i x → find p (take i xs) ≡ None → p x ≡ false
    → find p (take (i + 1) xs) ≡ None
find-passed p xs i x below is none e =
    ap (find p) (one_more xs i x below is) ∙ find-append p (take i xs) (x ∷ []) ∙ ap (λ o. option_or o (find p (x ∷ []))) none ∙ ap (λ b. cond b (Some x) None) e

-- a test that passes over the members so far finds the one that it holds of
pub find-here : {A : Type 0} (p : A → Bool) (xs : List A) (i : ℕ) (x : A) → i < length xs → x ≡ get_or xs i x → find p (take i xs) ≡ None → p x ≡ true
    → find p xs ≡ Some x
find-here p xs i x below is none e =
    ap (find p) (sym (take-append-drop i xs)) ∙ find-append p (take i xs) (drop i xs) ∙ ap (λ o. option_or o (find p (drop i xs))) none
    ∙ ap (find p) (drop-cons xs i x below ∙ ap (λ y. y ∷ drop (suc i) xs) (sym is)) ∙ ap (λ b. cond b (Some x) (find p (drop (suc i) xs))) e

counted : {B : Type 0} (o : Option B) (ys : List B) → is_some o ≡ true → length (cons_option o ys) ≡ suc (length ys)
counted (Some y) ys e = refl
counted None ys e = cc

both : (a b : Bool) → (a && b) ≡ true → (a ≡ true) × (b ≡ true)
both true b e = (refl, e)
both false b e = cc

-- where something is given of each member, as much is given as there are members
pub length-filter_map : {A B : Type 0} (h : A → Option B) (xs : List A) → list_all (λ x. is_some (h x)) xs ≡ true → length (filter_map h xs) ≡ length xs
length-filter_map h [] all = refl
length-filter_map h (x ∷ xs) all =
    let parts = both (is_some (h x)) (list_all (λ x. is_some (h x)) xs) all in
    counted (h x) (filter_map h xs) parts.0 ∙ ap suc (length-filter_map h xs parts.1)

-- what is made of nothing is nothing
pub nothing_mapped : {A B : Type 0} (f : A → B) (o : Option A) → option_map f o ≡ None → o ≡ None
nothing_mapped f None e = refl
nothing_mapped f (Some x) e = cc

given_of_all : {A B : Type 0} (o : Option B) (x : A) (rest : Option A) → cond (is_none o) (Some x) rest ≡ None → (is_some o ≡ true) × (rest ≡ None)
given_of_all (Some y) x rest e = (refl, e)
given_of_all None x rest e = cc

-- where no member is found of which nothing is given, something is given of each
pub list_all-given : {A B : Type 0} (h : A → Option B) (xs : List A) → find (λ x. is_none (h x)) xs ≡ None → list_all (λ x. is_some (h x)) xs ≡ true
list_all-given h [] none = refl
list_all-given h (x ∷ xs) none =
    let parts = given_of_all (h x) x (find (λ x. is_none (h x)) xs) none in
    rw (parts.0) (list_all-given h xs parts.1)
