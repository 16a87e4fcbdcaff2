-- Lists that weigh as much, whatever their members weigh.
use Rattle.std.proofs.Common.{◌≡◌, ℕ, ◌+◌, List, [], ◌∷◌, ◌++◌, Bool, true, false, cond, map, filter, refl, sym, ◌∙◌, ap, arith, ◌||◌}
use Rattle.std.specs.Prelude.{count_by, nat_lt, sum_by}
use Rattle.std.specs.List.{flat_map, list_any}
use Rattle.std.proofs.lemmas.Bool.Decides.{Decides-ltb}
use Rattle.std.proofs.lemmas.List.Sums.{sum_by-append, sum_by-cons}
use Rattle.plan_rules.specs.Bags.{AreSame}

-- weights that agree give one sum
pub sum_by-same : {X : Type 0} (f g : X → ℕ) (xs : List X) → ((x : X) → f x ≡ g x) → sum_by f xs ≡ sum_by g xs
sum_by-same f g xs h = λ i. sum_by (λ x. h x i) xs

-- weights that are added up
pub sum_by-plus : {X : Type 0} (f g : X → ℕ) (xs : List X) → sum_by (λ x. f x + g x) xs ≡ sum_by f xs + sum_by g xs
sum_by-plus f g [] = omega arith
sum_by-plus f g (x ∷ xs) = let h = sum_by-plus f g xs in omega (arith, sum_by-cons (λ x. f x + g x) x xs, sum_by-cons f x xs, sum_by-cons g x xs)

-- what passes a test weighs as all does, where the others weigh nothing
pub sum_by-filter : {X : Type 0} (f : X → ℕ) (p : X → Bool) (xs : List X) → sum_by f (filter p xs) ≡ sum_by (λ x. cond (p x) (f x) 0) xs
sum_by-filter f p [] = refl
sum_by-filter {X} f p (x ∷ xs) =
    let rest = sum_by-filter f p xs in
    let whole = sum_by-cons (λ x. cond (p x) (f x) 0) x xs in
    elim (p x) as (λ b. sum_by (λ x. cond (p x) (f x) 0) (x ∷ xs) ≡ cond b (f x) 0 + sum_by (λ x. cond (p x) (f x) 0) xs → sum_by f (cond b (x ∷ filter p xs) (filter p xs)) ≡ sum_by (λ x. cond (p x) (f x) 0) (x ∷ xs)) [
      | true ↦ λ is. omega (arith, sum_by-cons f x (filter p xs))
      | false ↦ λ is. omega arith
    ] whole

pub sum_by-map : {X Y : Type 0} (f : Y → ℕ) (g : X → Y) (xs : List X) → sum_by f (map g xs) ≡ sum_by (λ x. f (g x)) xs
sum_by-map f g [] = refl
sum_by-map f g (x ∷ xs) = let rest = sum_by-map f g xs in omega (arith, sum_by-cons f (g x) (map g xs), sum_by-cons (λ x. f (g x)) x xs)

pub sum_by-flat_map : {X Y : Type 0} (f : Y → ℕ) (g : X → List Y) (xs : List X) → sum_by f (flat_map g xs) ≡ sum_by (λ x. sum_by f (g x)) xs
sum_by-flat_map f g [] = refl
sum_by-flat_map f g (x ∷ xs) = let rest = sum_by-flat_map f g xs in omega (arith, sum_by-append f (g x) (flat_map g xs), sum_by-cons (λ x. sum_by f (g x)) x xs)

pub same-refl : {X : Type 0} (xs : List X) → AreSame xs xs
same-refl xs = record { sums = λ f. refl }

pub same-sym : {X : Type 0} (xs ys : List X) → AreSame xs ys → AreSame ys xs
same-sym xs ys a = record { sums = λ f. sym (a.sums f) }

pub same-trans : {X : Type 0} (xs ys zs : List X) → AreSame xs ys → AreSame ys zs → AreSame xs zs
same-trans xs ys zs a b = record { sums = λ f. a.sums f ∙ b.sums f }

pub same-append : {X : Type 0} (xs ys vs ws : List X) → AreSame xs ys → AreSame vs ws → AreSame (xs ++ vs) (ys ++ ws)
same-append xs ys vs ws a b = record { sums = λ f. let h = a.sums f in let k = b.sums f in omega (arith, sum_by-append f xs vs, sum_by-append f ys ws) }

pub same-filter : {X : Type 0} (p : X → Bool) (xs ys : List X) → AreSame xs ys → AreSame (filter p xs) (filter p ys)
same-filter p xs ys a = record { sums = λ f. sum_by-filter f p xs ∙ a.sums (λ x. cond (p x) (f x) 0) ∙ sym (sum_by-filter f p ys) }

pub same-map : {X Y : Type 0} (g : X → Y) (xs ys : List X) → AreSame xs ys → AreSame (map g xs) (map g ys)
same-map g xs ys a = record { sums = λ f. sum_by-map f g xs ∙ a.sums (λ x. f (g x)) ∙ sym (sum_by-map f g ys) }

pub same-flat_map : {X Y : Type 0} (g : X → List Y) (xs ys : List X) → AreSame xs ys → AreSame (flat_map g xs) (flat_map g ys)
same-flat_map g xs ys a = record { sums = λ f. sum_by-flat_map f g xs ∙ a.sums (λ x. sum_by f (g x)) ∙ sym (sum_by-flat_map f g ys) }

-- one more member passes, or it doesn't
counted_at : (b : Bool) (n whole : ℕ) → whole ≡ cond b 1 0 + n → (b || nat_lt 0 n) ≡ nat_lt 0 whole
counted_at true n whole is = sym ((Decides-ltb 0 whole).1 (omega arith))
counted_at false n whole is = ap (nat_lt 0) {x = n} {y = whole} (omega arith)

-- some member passes a test exactly where more than none do
pub list_any-counted : {X : Type 0} (p : X → Bool) (xs : List X) → list_any p xs ≡ nat_lt 0 (count_by p xs)
list_any-counted p [] = refl
list_any-counted p (x ∷ xs) =
    ap (λ (b : Bool). p x || b) (list_any-counted p xs) ∙ counted_at (p x) (count_by p xs) (count_by p (x ∷ xs)) (sum_by-cons (λ y. cond (p y) 1 0) x xs)

-- whether some member passes a test hangs on no order of them
pub list_any-same : {X : Type 0} (p : X → Bool) (xs ys : List X) → AreSame xs ys → list_any p xs ≡ list_any p ys
list_any-same p xs ys same = list_any-counted p xs ∙ ap (nat_lt 0) (same.sums (λ x. cond (p x) 1 0)) ∙ sym (list_any-counted p ys)
