-- Lists whose members stand each before all later ones.
use Rattle.std.proofs.Common.{suc, List, [], ◌∷◌, ◌++◌, Bool, true, false, cond, map, filter, get_or, subst, arith}
use Rattle.std.specs.Prelude.{All, AllPairs}
use Rattle.std.specs.List.{flat_map}
use Rattle.std.proofs.lemmas.List.{get_or-map, length-map}
use Rattle.std.proofs.lemmas.List.Elements.{All-append, All-filter, All-head, All-map, All-nil, All-tail}
use Rattle.std.proofs.lemmas.List.Kept.{AllPairs-cons}

-- each member stands before all later ones, one after the other
abbrev pub Rising : {X : Type 0} → (X → X → Type 0) → List X → Type 0
Rising R [] = Unit {0}
Rising R (x ∷ xs) = All (R x) xs × Rising R xs

pub pairs_from_rising : {X : Type 0} (R : X → X → Type 0) (xs : List X) → Rising R xs → AllPairs R xs
pairs_from_rising R [] up = λ i j d below within. absurd (omega arith)
pairs_from_rising R (x ∷ xs) up = AllPairs-cons R x xs (up.0) (pairs_from_rising R xs (up.1))

pub rising_from_pairs : {X : Type 0} (R : X → X → Type 0) (xs : List X) → AllPairs R xs → Rising R xs
rising_from_pairs R [] pairs = tt
rising_from_pairs R (x ∷ xs) pairs = (λ k d within. pairs 0 (suc k) d (omega arith) (omega arith), rising_from_pairs R xs (λ i j d below within. pairs (suc i) (suc j) d (omega arith) (omega arith)))

pub rising-filter : {X : Type 0} (R : X → X → Type 0) (p : X → Bool) (xs : List X) → Rising R xs → Rising R (filter p xs)
rising-filter R p [] up = tt
rising-filter R p (x ∷ xs) up =
    let rest = rising-filter R p xs (up.1) in
    elim (p x) as (λ b. Rising R (cond b (x ∷ filter p xs) (filter p xs))) [ true ↦ (All-filter p (R x) xs (up.0), rest) | false ↦ rest ]

pub rising-append : {X : Type 0} (R : X → X → Type 0) (xs ys : List X) → Rising R xs → Rising R ys → All (λ x. All (R x) ys) xs → Rising R (xs ++ ys)
rising-append R [] ys up more across = more
rising-append R (x ∷ xs) ys up more across =
    let P : _ → Type 0 = λ x. All (R x) ys in
    (All-append (R x) xs ys (up.0) (All-head P x xs across), rising-append R xs ys (up.1) more (All-tail P x xs across))

-- a map that keeps the order
pub rising-map : {X Y : Type 0} (R : X → X → Type 0) (S : Y → Y → Type 0) (f : X → Y) → ((x y : X) → R x y → S (f x) (f y)) → (xs : List X) → Rising R xs → Rising S (map f xs)
rising-map R S f keeps [] up = tt
rising-map R S f keeps (x ∷ xs) up = (All-map (S (f x)) f xs (λ k d within. keeps x (get_or xs k d) (up.0 k d within)), rising-map R S f keeps xs (up.1))

-- all members of what each member makes
pub All-flat_map : {X Y : Type 0} (P : Y → Type 0) (f : X → List Y) (xs : List X) → All (λ x. All P (f x)) xs → All P (flat_map f xs)
All-flat_map P f [] all = All-nil P
All-flat_map P f (x ∷ xs) all =
    let Q : _ → Type 0 = λ x. All P (f x) in
    All-append P (f x) (flat_map f xs) (All-head Q x xs all) (All-flat_map P f xs (All-tail Q x xs all))

-- where each member makes members in order, and a member's stand before those of all later members
pub rising-flat_map : {X Y : Type 0} (R : X → X → Type 0) (S : Y → Y → Type 0) (f : X → List Y) (xs : List X) → Rising R xs
    → All (λ x. Rising S (f x)) xs → ((x y : X) → R x y → All (λ a. All (S a) (f y)) (f x)) → Rising S (flat_map f xs)
rising-flat_map R S f [] up each across = tt
rising-flat_map R S f (x ∷ xs) up each across =
    let Q : _ → Type 0 = λ x. Rising S (f x) in
    rising-append S (f x) (flat_map f xs) (All-head Q x xs each) (rising-flat_map R S f xs (up.1) (All-tail Q x xs each) across)
    (λ k d within. All-flat_map (S (get_or (f x) k d)) f xs (λ j e there. across x (get_or xs j e) (up.0 j e there) k d within))

-- members are in order where what a map makes of them is
pub rising-unmap : {X Y : Type 0} (f : X → Y) (S : Y → Y → Type 0) (xs : List X) → Rising S (map f xs) → Rising (λ x y. S (f x) (f y)) xs
rising-unmap f S [] up = tt
rising-unmap f S (x ∷ xs) up = (λ k d within. subst (S (f x)) (get_or-map f xs k d (f d) within) (up.0 k (f d) (rw (length-map xs f) within)), rising-unmap f S xs (up.1))
