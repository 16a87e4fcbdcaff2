-- What collectors make of numbers hangs on no order of these.
use Rattle.std.proofs.Common.{◌≡◌, ℕ, ℤ, pos, ◌+◌, ◌+ℤ◌, List, [], ◌∷◌, map, Bool, true, false, cond, fold, length, refl, sym, ◌∙◌, ap, arith, ◌||◌}
use Rattle.std.specs.Prelude.{sum_by}
use Rattle.std.specs.Int.{int_min, int_max}
use Rattle.std.specs.Set.{distinct_count, is_member, unique_keys}
use Rattle.std.specs.Ordering.{int_eq}
use Rattle.std.specs.Cmp.{int_eq_equiv, signed_Decides}
use Rattle.std.proofs.lemmas.Int.{ints}
use Rattle.std.proofs.lemmas.List.Sums.{sum_by-cons}
use Rattle.plan_rules.specs.declared.row.Part.{Part}
use Rattle.plan_rules.specs.declared.rule.Collect.{Collect}
use Rattle.plan_rules.specs.declared.rule.Collect.TheVariants as collect
use Rattle.plan_rules.specs.Meaning.{Meaning}
use Rattle.plan_rules.specs.Groups.{collected, greatest_of, least_of}
use Rattle.plan_rules.specs.Bags.{AreSame}
use Rattle.plan_rules.proofs.Rearranged.{HoldsInAnyOrder, same_by}
use Rattle.plan_rules.proofs.Sums.{same-map}

-- as many members
length-counted : {X : Type 0} (xs : List X) → length xs ≡ sum_by (λ x. 1) xs
length-counted [] = refl
length-counted (x ∷ xs) = let rest = length-counted xs in omega (arith, sum_by-cons (λ x. 1) x xs)

adding_swaps : (a x y : ℤ) → (a +ℤ x) +ℤ y ≡ (a +ℤ y) +ℤ x
adding_swaps a x y = omega (arith, ints)

least_swaps : (a x y : ℤ) → int_min (int_min a x) y ≡ int_min (int_min a y) x
least_swaps a x y = grind (arith, ints)

least_turns : (x y : ℤ) → int_min x y ≡ int_min y x
least_turns x y = grind (arith, ints)

greatest_swaps : (a x y : ℤ) → int_max (int_max a x) y ≡ int_max (int_max a y) x
greatest_swaps a x y = grind (arith, ints)

greatest_turns : (x y : ℤ) → int_max x y ≡ int_max y x
greatest_turns x y = grind (arith, ints)

-- what is added up onto any number
sums_hold : HoldsInAnyOrder (λ (xs ys : List ℤ). (a : ℤ) → fold (λ a b. a +ℤ b) a xs ≡ fold (λ a b. a +ℤ b) a ys)
sums_hold = record {
  none = λ a. refl;
  more = λ x xs ys same a. same (a +ℤ x);
  swap = λ x y xs a. ap (λ (s : ℤ). fold (λ a b. a +ℤ b) s xs) (adding_swaps a x y);
  through = λ xs ys zs one other a. one a ∙ other a;
}

-- the least of numbers, and of these and any other one
leasts_hold : HoldsInAnyOrder (λ (xs ys : List ℤ). ((a : ℤ) → fold int_min a xs ≡ fold int_min a ys) × (least_of xs ≡ least_of ys))
leasts_hold = record {
  none = (λ a. refl, refl);
  more = λ x xs ys same. (λ a. same.0 (int_min a x), same.0 x);
  swap = λ x y xs. (λ a. ap (λ (s : ℤ). fold int_min s xs) (least_swaps a x y), ap (λ (s : ℤ). fold int_min s xs) (least_turns x y));
  through = λ xs ys zs one other. (λ a. one.0 a ∙ other.0 a, one.1 ∙ other.1);
}

greatests_hold : HoldsInAnyOrder (λ (xs ys : List ℤ). ((a : ℤ) → fold int_max a xs ≡ fold int_max a ys) × (greatest_of xs ≡ greatest_of ys))
greatests_hold = record {
  none = (λ a. refl, refl);
  more = λ x xs ys same. (λ a. same.0 (int_max a x), same.0 x);
  swap = λ x y xs. (λ a. ap (λ (s : ℤ). fold int_max s xs) (greatest_swaps a x y), ap (λ (s : ℤ). fold int_max s xs) (greatest_turns x y));
  through = λ xs ys zs one other. (λ a. one.0 a ∙ other.0 a, one.1 ∙ other.1);
}

-- a number is among some
abbrev among : List ℤ → ℤ → Bool
among xs q = is_member int_eq xs q

-- a number counts unless it comes again
count-cons : (x : ℤ) (xs : List ℤ) → distinct_count int_eq (x ∷ xs) ≡ cond (among xs x) 0 1 + distinct_count int_eq xs
count-cons x xs = elim (among xs x) as (λ b. length (cond b (unique_keys int_eq xs) (x ∷ unique_keys int_eq xs)) ≡ cond b 0 1 + length (unique_keys int_eq xs)) [ true ↦ omega arith | false ↦ omega arith ]

pub or-swap : (a b c : Bool) → (a || (b || c)) ≡ (b || (a || c))
or-swap true true c = refl
or-swap true false c = refl
or-swap false b c = refl

-- two numbers count alike, whichever comes first
counts_swap : (x y : ℤ) (xs : List ℤ) → distinct_count int_eq (x ∷ y ∷ xs) ≡ distinct_count int_eq (y ∷ x ∷ xs)
counts_swap x y xs =
    let turns : int_eq y x ≡ int_eq x y = int_eq_equiv.symm y x in
    let one = count-cons x (y ∷ xs) ∙ ap (λ (n : ℕ). cond (int_eq x y || among xs x) 0 1 + n) (count-cons y xs) in
    let other = count-cons y (x ∷ xs) ∙ ap (λ (n : ℕ). cond (int_eq y x || among xs y) 0 1 + n) (count-cons x xs) in
    elim (int_eq x y) as (λ b. int_eq x y ≡ b → distinct_count int_eq (x ∷ y ∷ xs) ≡ distinct_count int_eq (y ∷ x ∷ xs)) [
      | true ↦ λ is. let same : x ≡ y = (signed_Decides x y).0 is in λ i. distinct_count int_eq (same i ∷ sym same i ∷ xs)
      | false ↦ λ is.
          let first : cond {A = ℕ} (int_eq x y || among xs x) 0 1 ≡ cond (among xs x) 0 1 = ap (λ (b : Bool). cond {A = ℕ} (b || among xs x) 0 1) is in
          let second : cond {A = ℕ} (int_eq y x || among xs y) 0 1 ≡ cond (among xs y) 0 1 = ap (λ (b : Bool). cond {A = ℕ} (b || among xs y) 0 1) (turns ∙ is) in
          omega arith
    ] refl

-- how many different numbers there are, and which
counts_hold : HoldsInAnyOrder (λ (xs ys : List ℤ). (distinct_count int_eq xs ≡ distinct_count int_eq ys) × ((q : ℤ) → among xs q ≡ among ys q))
counts_hold = record {
  none = (refl, λ q. refl);
  more = λ x xs ys same.
      (count-cons x xs ∙ (λ i. cond (same.1 x i) 0 1 + same.0 i) ∙ sym (count-cons x ys), λ q. ap (λ (b : Bool). int_eq q x || b) (same.1 q));
  swap = λ x y xs. (counts_swap x y xs, λ q. or-swap (int_eq q x) (int_eq q y) (among xs q));
  through = λ xs ys zs one other. (one.0 ∙ other.0, λ q. one.1 q ∙ other.1 q);
}

-- what a collector makes of rows hangs on no order of these
pub collected-same : (m : Meaning) (collect : Collect) (rows others : List (List Part)) → AreSame rows others → collected m collect rows ≡ collected m collect others
collected-same m collect.Count rows others same = ap pos (length-counted rows ∙ same.sums (λ row. 1) ∙ sym (length-counted others))
collected-same m (collect.CountDistinct key) rows others same = ap pos ((same_by int_eq signed_Decides counts_hold (map (m.key_of key) rows) (map (m.key_of key) others) (same-map (m.key_of key) rows others same)).0)
collected-same m (collect.Sum key) rows others same = same_by int_eq signed_Decides sums_hold (map (m.key_of key) rows) (map (m.key_of key) others) (same-map (m.key_of key) rows others same) (pos 0)
collected-same m (collect.Min key) rows others same = (same_by int_eq signed_Decides leasts_hold (map (m.key_of key) rows) (map (m.key_of key) others) (same-map (m.key_of key) rows others same)).1
collected-same m (collect.Max key) rows others same = (same_by int_eq signed_Decides greatests_hold (map (m.key_of key) rows) (map (m.key_of key) others) (same-map (m.key_of key) rows others same)).1
