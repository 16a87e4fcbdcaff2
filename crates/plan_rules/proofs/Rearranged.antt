-- Lists that weigh as much have the same members in another order, where members can be told apart.
use Rattle.std.proofs.Common.{◌≡◌, ℕ, ◌+◌, ◌<◌, List, [], ◌∷◌, ◌++◌, Bool, true, false, cond, refl, sym, ap, subst, arith}
use Rattle.std.specs.Prelude.{count_by, IsPermutation}
use Rattle.std.specs.Bool.{Decides}
use Rattle.std.proofs.lemmas.List.Sums.{sum_by-append, sum_by-cons}
use Rattle.std.proofs.lemmas.List.Sorted.{IsPermutation-cons, IsPermutation-middle, IsPermutation-refl, IsPermutation-sym, IsPermutation-trans, sum_by-IsPermutation}
use Rattle.plan_rules.specs.Bags.{AreSame}

-- a list with a member in its middle
pub record Parted {X : Type 0} (x : X) (xs : List X) : Type 0 where
  pub front : List X
  pub back : List X
  pub is : xs ≡ front ++ x ∷ back

-- what holds of lists that differ in their order alone: it holds of one list twice, of lists with one more member in front, of two members changed round, and through a list between
pub record HoldsInAnyOrder {X : Type 0} (P : List X → List X → Type 0) : Type 0 where
  pub none : P [] []
  pub more : (x : X) (xs ys : List X) → P xs ys → P (x ∷ xs) (x ∷ ys)
  pub swap : (x y : X) (xs : List X) → P (x ∷ y ∷ xs) (y ∷ x ∷ xs)
  pub through : (xs ys zs : List X) → P xs ys → P ys zs → P xs zs

module _ {X : Type 0} {P : List X → List X → Type 0} (holds : HoldsInAnyOrder P) where
  of_itself : (xs : List X) → P xs xs
  of_itself [] = holds.none
  of_itself (x ∷ xs) = holds.more x xs xs (of_itself xs)

  -- a member moved from the front to the middle
  moved_back : (x : X) (front back : List X) → P (x ∷ (front ++ back)) (front ++ x ∷ back)
  moved_back x [] back = of_itself (x ∷ back)
  moved_back x (y ∷ front) back =
      holds.through (x ∷ y ∷ (front ++ back)) (y ∷ x ∷ (front ++ back)) (y ∷ (front ++ x ∷ back))
      (holds.swap x y (front ++ back)) (holds.more y (x ∷ (front ++ back)) (front ++ x ∷ back) (moved_back x front back))

module _ {X : Type 0} (e : X → X → Bool) (decides : (x y : X) → Decides (e x y) (x ≡ y)) where
  counts_itself : (x : X) (ys : List X) → 0 < count_by (e x) (x ∷ ys)
  counts_itself x ys =
      let one : ◌≡◌ {A = ℕ} (cond (e x x) 1 0) 1 = ap (λ (b : Bool). cond {A = ℕ} b 1 0) ((decides x x).1 refl) in
      omega (arith, sum_by-cons (λ y. cond (e x y) 1 0) x ys)

  -- a list in which a member is counted has it somewhere
  pub parted : (x : X) (ys : List X) → 0 < count_by (e x) ys → Parted x ys
  parted x [] counted = absurd (omega arith)
  parted x (y ∷ ys) counted =
      let whole : count_by (e x) (y ∷ ys) ≡ cond (e x y) 1 0 + count_by (e x) ys = sum_by-cons (λ z. cond (e x z) 1 0) y ys in
      elim (e x y) as (λ b. e x y ≡ b → count_by (e x) (y ∷ ys) ≡ cond b 1 0 + count_by (e x) ys → Parted x (y ∷ ys)) [
        | true ↦ λ is counts. record { front = []; back = ys; is = ap (λ (z : X). z ∷ ys) (sym ((decides x y).0 is)) }
        | false ↦ λ is counts. let later = parted x ys (omega arith) in record { front = y ∷ later.front; back = later.back; is = ap (λ (zs : List X). y ∷ zs) later.is }
      ] refl whole

  -- the other list has the first member too
  pub found_first : (x : X) (xs ys : List X) → AreSame (x ∷ xs) ys → Parted x ys
  found_first x xs ys same =
      let is = same.sums (λ y. cond (e x y) 1 0) in
      let there = counts_itself x xs in
      parted x ys (omega arith)

  -- and without it the lists are the same still
  pub same_without : (x : X) (xs front back : List X) → AreSame (x ∷ xs) (front ++ x ∷ back) → AreSame xs (front ++ back)
  same_without x xs front back same = record {
    sums = λ f.
        let is = same.sums f in
        omega (arith, sum_by-cons f x xs, sum_by-append f front (x ∷ back), sum_by-cons f x back, sum_by-append f front back);
  }

  -- what holds in any order holds of lists that are the same but for their order
  pub same_by : {P : List X → List X → Type 0} → HoldsInAnyOrder P → (xs ys : List X) → AreSame xs ys → P xs ys
  same_by holds [] [] same = holds.none
  same_by holds [] (y ∷ ys) same = absurd (let is = same.sums (λ x. 1) in omega (arith, sum_by-cons (λ x. 1) y ys))
  same_by {P} holds (x ∷ xs) ys same =
      let at = found_first x xs ys same in
      let rest = same_by holds xs (at.front ++ at.back) (same_without x xs at.front at.back (subst (λ (zs : List X). AreSame (x ∷ xs) zs) at.is same)) in
      subst (λ (zs : List X). P (x ∷ xs) zs) (sym at.is)
      (holds.through (x ∷ xs) (x ∷ (at.front ++ at.back)) (at.front ++ x ∷ at.back) (holds.more x xs (at.front ++ at.back) rest) (moved_back holds x at.front at.back))

  permuted : HoldsInAnyOrder (λ (xs ys : List X). IsPermutation xs ys)
  permuted = record {
    none = IsPermutation-refl [];
    more = IsPermutation-cons;
    swap = λ x y xs. IsPermutation-sym (y ∷ x ∷ xs) (x ∷ y ∷ xs) (IsPermutation-middle (y ∷ []) x xs);
    through = IsPermutation-trans;
  }

  pub permutation_from_same : (xs ys : List X) → AreSame xs ys → IsPermutation xs ys
  permutation_from_same = same_by permuted

pub same_from_permutation : {X : Type 0} (xs ys : List X) → IsPermutation xs ys → AreSame xs ys
same_from_permutation xs ys p = record { sums = λ f. sym (sum_by-IsPermutation f xs ys p) }
