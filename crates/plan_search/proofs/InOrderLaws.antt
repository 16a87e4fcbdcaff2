-- A list put in order has the same members, is sorted, and is the only such list.
use Rattle.std.proofs.Common.{◌≡◌, ◌∙◌, ◌⊎◌, inl, inr, ◌+◌, Bool, true, false, not, List, [], ◌∷◌, ◌++◌, refl, sym, ap, subst, arith}
use Rattle.std.specs.Prelude.{All, IsPermutation, IsSorted, filter}
use Rattle.std.specs.Ordering.{is_lt, is_eq, ordering_reverse}
use Rattle.std.specs.declared.cmp.Ordering.{Ordering}
use Rattle.std.specs.declared.cmp.Ordering.TheVariants.{Less, Equal, Greater}
use Rattle.std.specs.Cmp.{IsTotalOrder, IsStrictWeakOrder, Equal-is, tied_itself}
use Rattle.std.specs.Bool.{Decides}
use Rattle.std.proofs.lemmas.List.Elements.{All-cons, All-head, All-tail, All-weaker, filter_passes}
use Rattle.std.proofs.lemmas.List.MinMax.{ranks_by}
use Rattle.std.proofs.lemmas.List.Sorted.{IsPermutation-cons, IsPermutation-filter_both, IsPermutation-middle, IsPermutation-refl, IsPermutation-sym, IsPermutation-trans, sorted_far}
use Rattle.std.proofs.lemmas.List.Sums.{sum_by-cons}
use Rattle.plan_rules.specs.Bags.{AreSame}
use Rattle.plan_rules.proofs.Rearranged.{found_first, same_from_permutation, same_without}
use Rattle.plan_rules.proofs.Rising.{Rising, pairs_from_rising, rising_from_pairs, rising-append, rising-filter}
use Rattle.plan_search.specs.InOrder.{in_order}

-- a list put in order has the same members
pub IsPermutation-in_order : {A : Type 0} (cmp : A → A → Ordering) (xs : List A) → IsPermutation xs (in_order cmp xs)
IsPermutation-in_order cmp [] = IsPermutation-refl []
IsPermutation-in_order cmp (x ∷ xs) =
    let rest = in_order cmp xs in
    let front = filter (λ other. is_lt (cmp other x)) rest in
    let back = filter (λ other. not (is_lt (cmp other x))) rest in
    let parted = IsPermutation-filter_both (λ other. is_lt (cmp other x)) (λ other. not (is_lt (cmp other x))) (λ other. refl) rest in
    IsPermutation-trans (x ∷ xs) (x ∷ rest) (front ++ x ∷ back) (IsPermutation-cons x xs rest (IsPermutation-in_order cmp xs))
    (IsPermutation-trans (x ∷ rest) (x ∷ (front ++ back)) (front ++ x ∷ back) (IsPermutation-cons x rest (front ++ back) parted)
    (IsPermutation-sym (front ++ x ∷ back) (x ∷ (front ++ back)) (IsPermutation-middle front x back)))

not_true : (b : Bool) → not b ≡ true → b ≡ false
not_true true h = cc
not_true false h = refl

-- neither comes before the other
tied_both : (r : Ordering) → is_lt r ≡ false → is_lt (ordering_reverse r) ≡ false → r ≡ Equal
tied_both Less h k = cc
tied_both Equal h k = refl
tied_both Greater h k = cc

module _ {A : Type 0} (cmp : A → A → Ordering) (total : IsTotalOrder cmp) where
  -- the second doesn't come before the first
  abbrev NotAfter : A → A → Type 0
  NotAfter one other = is_lt (cmp other one) ≡ false

  weak : IsStrictWeakOrder (λ one other. is_lt (cmp one other))
  weak = ranks_by total (λ (x : A). x)

  -- in a list put in order no member comes before an earlier one
  Rising-in_order : (xs : List A) → Rising NotAfter (in_order cmp xs)
  Rising-in_order [] = tt
  Rising-in_order (x ∷ xs) =
      let rest = in_order cmp xs in
      let before : A → Bool = λ other. is_lt (cmp other x) in
      let behind : A → Bool = λ other. not (is_lt (cmp other x)) in
      let up = Rising-in_order xs in
      let after : All (NotAfter x) (filter behind rest) =
      All-weaker (λ other. behind other ≡ true) (NotAfter x) (λ other h. not_true (is_lt (cmp other x)) h) (filter behind rest) (filter_passes behind rest) in
      rising-append NotAfter (filter before rest) (x ∷ filter behind rest) (rising-filter NotAfter before rest up) (after, rising-filter NotAfter behind rest up)
      (All-weaker (λ one. before one ≡ true) (λ one. All (NotAfter one) (x ∷ filter behind rest))
      (λ one h. All-cons (NotAfter one) x (filter behind rest) (weak.one_way one x h)
      (All-weaker (NotAfter x) (NotAfter one) (λ other k. weak.chain other x one k (weak.one_way one x h)) (filter behind rest) after))
      (filter before rest) (filter_passes before rest))

  -- a list put in order is sorted
  pub IsSorted-in_order : (xs : List A) → IsSorted cmp (in_order cmp xs)
  IsSorted-in_order xs k d low within = pairs_from_rising NotAfter (in_order cmp xs) (Rising-in_order xs) k (k + 1) d (omega arith) within

  -- in a sorted list no member comes before an earlier one
  Rising-from_sorted : (xs : List A) → IsSorted cmp xs → Rising NotAfter xs
  Rising-from_sorted xs sorted =
      rising_from_pairs NotAfter xs (λ i j d below within. sorted_far (λ one other. is_lt (cmp one other)) weak xs sorted i j d (omega arith) within)

  module _ (apart : (one other : A) → cmp one other ≡ Equal → one ≡ other) where
    abbrev is_same : A → A → Bool
    is_same one other = is_eq (cmp one other)

    same_decides : (one other : A) → Decides (is_same one other) (one ≡ other)
    same_decides one other =
        (λ h. apart one other ((Equal-is (cmp one other)).0 h), λ h. subst (λ (z : A). is_eq (cmp one z) ≡ true) h (ap is_eq (tied_itself total one)))

    -- what stands in a list is its first member or doesn't come before that
    first_or_after : (x y : A) (ys front back : List A) → All (NotAfter y) ys → y ∷ ys ≡ front ++ x ∷ back → (y ≡ x) ⊎ NotAfter y x
    first_or_after x y ys [] back all is = inl (list_first y x ys back is)
      where
        list_first : (a b : A) (more others : List A) → a ∷ more ≡ b ∷ others → a ≡ b
        list_first a b more others is = cc
    first_or_after x y ys (z ∷ front) back all is =
        inr (at_middle front (subst (λ (zs : List A). All (NotAfter y) zs) (list_rest y z ys (front ++ x ∷ back) is) all))
      where
        list_rest : (a b : A) (more others : List A) → a ∷ more ≡ b ∷ others → more ≡ others
        list_rest a b more others is = cc

        at_middle : (front : List A) → All (NotAfter y) (front ++ x ∷ back) → NotAfter y x
        at_middle [] all = All-head (NotAfter y) x back all
        at_middle (z ∷ front) all = at_middle front (All-tail (NotAfter y) z (front ++ x ∷ back) all)

    -- two lists that are the same but for their order, and in order, have the same first member
    same_first : (x y : A) (xs ys : List A) → All (NotAfter x) xs → All (NotAfter y) ys → AreSame (x ∷ xs) (y ∷ ys) → x ≡ y
    same_first x y xs ys after_x after_y same =
        let here = found_first is_same same_decides x xs (y ∷ ys) same in
        let there = found_first is_same same_decides y ys (x ∷ xs) (record { sums = λ f. sym (same.sums f) }) in
        elim (first_or_after x y ys here.front here.back after_y here.is) [
          | inl is ↦ sym is
          | inr not_before ↦ elim (first_or_after y x xs there.front there.back after_x there.is) [
            | inl is ↦ is
            | inr not_after ↦ apart x y (tied_both (cmp x y) not_before (ap is_lt (sym (total.antisymm y x)) ∙ not_after))
          ]
        ]

    -- and are one
    same_in_order : (xs ys : List A) → Rising NotAfter xs → Rising NotAfter ys → AreSame xs ys → xs ≡ ys
    same_in_order [] [] up order same = refl
    same_in_order [] (y ∷ ys) up order same = absurd (let is = same.sums (λ z. 1) in omega (arith, sum_by-cons (λ (z : A). 1) y ys))
    same_in_order (x ∷ xs) [] up order same = absurd (let is = same.sums (λ z. 1) in omega (arith, sum_by-cons (λ (z : A). 1) x xs))
    same_in_order (x ∷ xs) (y ∷ ys) up order same =
        let first = same_first x y xs ys up.0 order.0 same in
        let rest = same_in_order xs ys up.1 order.1 (same_without is_same same_decides x xs [] ys (subst (λ (z : A). AreSame (x ∷ xs) (z ∷ ys)) (sym first) same)) in
        λ i. first i ∷ rest i

    -- a sorted list with the same members is the list put in order
    pub sorted-in_order : (xs sorted : List A) → IsPermutation xs sorted → IsSorted cmp sorted → sorted ≡ in_order cmp xs
    sorted-in_order xs sorted moved order =
        same_in_order sorted (in_order cmp xs) (Rising-from_sorted sorted order) (Rising-in_order xs)
        (same_from_permutation sorted (in_order cmp xs) (IsPermutation-trans sorted xs (in_order cmp xs) (IsPermutation-sym xs sorted moved) (IsPermutation-in_order cmp xs)))
