-- Lists of which each member is taken alike.
use Rattle.std.proofs.Common.{◌≡◌, ◌∙◌, ◌+◌, ◌&&◌, ◌||◌, ℕ, zero, suc, Bool, true, false, cond, List, [], ◌∷◌, ◌++◌, Some, filter, map, get_or, refl, slice_get, take, ap, add-one}
use Rattle.std.specs.Prelude.{All, option_map}
use Rattle.std.specs.List.{list_any}
use Rattle.std.proofs.lemmas.List.Elements.{All-filter, All-head, All-map, All-tail}
use Rattle.plan_rules.proofs.Rising.{All-flat_map}
use Rattle.stream_heads.specs.declared.cells.Cell.{Cell}
use Rattle.stream_heads.specs.Beside.{beside}
use Rattle.stream_join.specs.Pairing.{joined_cells}

-- tests that agree on each member keep the same
pub filter_all : {X : Type 0} (p q : X → Bool) (xs : List X) → All (λ x. p x ≡ q x) xs → filter p xs ≡ filter q xs
filter_all p q [] all = refl
filter_all {X} p q (x ∷ xs) all =
    let first = All-head (λ (y : X). p y ≡ q y) x xs all in
    let rest = filter_all p q xs (All-tail (λ (y : X). p y ≡ q y) x xs all) in
    ap (λ (b : Bool). cond b (x ∷ filter p xs) (filter p xs)) first ∙ ap (λ (ys : List X). cond (q x) (x ∷ ys) ys) rest

-- and find one alike
pub any_all : {X : Type 0} (p q : X → Bool) (xs : List X) → All (λ x. p x ≡ q x) xs → list_any p xs ≡ list_any q xs
any_all p q [] all = refl
any_all {X} p q (x ∷ xs) all =
    let first = All-head (λ (y : X). p y ≡ q y) x xs all in
    let rest = any_all p q xs (All-tail (λ (y : X). p y ≡ q y) x xs all) in
    λ i. first i || rest i

-- what is made of each is the same
pub map_all : {X Y : Type 0} (f g : X → Y) (xs : List X) → All (λ x. f x ≡ g x) xs → map f xs ≡ map g xs
map_all f g [] all = refl
map_all {X} f g (x ∷ xs) all =
    let first = All-head (λ (y : X). f y ≡ g y) x xs all in
    let rest = map_all f g xs (All-tail (λ (y : X). f y ≡ g y) x xs all) in
    λ i. first i ∷ rest i

pub map-map : {X Y Z : Type 0} (g : Y → Z) (f : X → Y) (xs : List X) → map g (map f xs) ≡ map (λ x. g (f x)) xs
map-map g f [] = refl
map-map g f (x ∷ xs) = let rest = map-map g f xs in λ i. g (f x) ∷ rest i

-- what passes two tests passes both at once
pub filter-both : {X : Type 0} (p q : X → Bool) (xs : List X) → filter p (filter q xs) ≡ filter (λ x. q x && p x) xs
filter-both p q [] = refl
filter-both p q (x ∷ xs) =
    let rest = filter-both p q xs in
    elim (q x) as (λ b. filter p (cond b (x ∷ filter q xs) (filter q xs)) ≡ cond (b && p x) (x ∷ filter (λ y. q y && p y) xs) (filter (λ y. q y && p y) xs)) [
      | true ↦ λ i. cond (p x) (x ∷ rest i) (rest i)
      | false ↦ rest
    ]

-- rows are joined alike where tests agree on each pair
pub joined_all : (p q : List Cell → List Cell → Bool) (lefts rights : List (List Cell)) → All (λ left. All (λ right. p left right ≡ q left right) rights) lefts
    → joined_cells p lefts rights ≡ joined_cells q lefts rights
joined_all p q [] rights all = refl
joined_all p q (left ∷ lefts) rights all =
    let P : List Cell → Type 0 = λ one. All (λ right. p one right ≡ q one right) rights in
    let here = filter_all (p left) (q left) rights (All-head P left lefts all) in
    let rest = joined_all p q lefts rights (All-tail P left lefts all) in
    λ i. map (beside left) (here i) ++ rest i

-- all joined rows are as pairs of their left and right rows are
pub All-joined : (P Q R : List Cell → Type 0) (test : List Cell → List Cell → Bool) (lefts rights : List (List Cell)) → ((left right : List Cell) → P left → Q right → R (beside left right))
    → All P lefts → All Q rights → All R (joined_cells test lefts rights)
All-joined P Q R test lefts rights each all others =
    All-flat_map R (λ left. map (beside left) (filter (test left) rights)) lefts
    (λ k d within.
    let left = get_or lefts k d in
    All-map R (beside left) (filter (test left) rights)
    (All-filter (test left) (λ right. R (beside left right)) rights (λ j e there. each left (get_or rights j e) (all k d within) (others j e there))))

-- what is made of one item more
map_take_suc : {X Y : Type 0} (f : X → Y) (xs : List X) (k : ℕ) (y : Y) → Some y ≡ option_map f (slice_get xs k) → map f (take (suc k) xs) ≡ map f (take k xs) ++ y ∷ []
map_take_suc f [] k y is = cc
map_take_suc f (x ∷ xs) zero y is =
    let e : f x ≡ y = cc in ap (λ (z : _). z ∷ []) e
map_take_suc f (x ∷ xs) (suc k) y is = ap (λ (zs : List _). f x ∷ zs) (map_take_suc f xs k y is)

pub map_take_more : {X Y : Type 0} (f : X → Y) (xs : List X) (k : ℕ) (y : Y) → Some y ≡ option_map f (slice_get xs k) → map f (take (k + 1) xs) ≡ map f (take k xs) ++ y ∷ []
map_take_more f xs k y is = rw add-one (map_take_suc f xs k y is)
