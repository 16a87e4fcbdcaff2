-- Rows that are counted.
use Rattle.std.proofs.Common.{◌≡◌, ◌<◌, ◌≤◌, ◌+◌, ℕ, Bool, false, cond, List, [], ◌∷◌, ◌++◌, refl, ap, arith}
use Rattle.std.specs.Prelude.{count_by, sum_by}
use Rattle.std.specs.Bool.{Decides}
use Rattle.std.proofs.lemmas.List.Sums.{sum_by-append, sum_by-cons}
use Rattle.plan_rules.specs.Bags.{AreSame}
use Rattle.plan_rules.proofs.Rearranged.{parted}
use Rattle.stream_heads.specs.Bags.{IsPartOf}

module _ {X : Type 0} (e : X → X → Bool) (decides : (x y : X) → Decides (e x y) (x ≡ y)) where
  -- a member that stands first counts once more
  pub count_first : (x : X) (xs : List X) → count_by (e x) (x ∷ xs) ≡ 1 + count_by (e x) xs
  count_first x xs =
      let one : ◌≡◌ {A = ℕ} (cond (e x x) 1 0) 1 = ap (λ (b : Bool). cond {A = ℕ} b 1 0) ((decides x x).1 refl) in
      omega (arith, sum_by-cons (λ y. cond (e x y) 1 0) x xs)

  -- where each member counts no more in one list than in the other, the one is a part of the other
  pub part_from_counts : (xs ys : List X) → ((x : X) → count_by (e x) xs ≤ count_by (e x) ys) → IsPartOf xs ys
  part_from_counts [] ys few = record { sums = λ f. omega arith }
  part_from_counts (x ∷ xs) ys few =
      let there = few x in
      let one = count_first x xs in
      let at = parted e decides x ys (omega (arith, there, one)) in
      let rest = part_from_counts xs (at.front ++ at.back) (λ z.
      let w : X → ℕ = λ y. cond (e z y) 1 0 in
      let is = few z in
      let whole : count_by (e z) ys ≡ sum_by w (at.front ++ x ∷ at.back) = ap (sum_by w) at.is in
      omega (arith, is, whole, sum_by-cons w x xs, sum_by-append w at.front (x ∷ at.back), sum_by-cons w x at.back, sum_by-append w at.front at.back)) in
      record {
        sums = λ f.
            let more = rest.sums f in
            let whole : sum_by f ys ≡ sum_by f (at.front ++ x ∷ at.back) = ap (sum_by f) at.is in
            omega (arith, more, whole, sum_by-cons f x xs, sum_by-append f at.front (x ∷ at.back), sum_by-cons f x at.back, sum_by-append f at.front at.back);
      }

  -- where each member counts alike in both lists, these are the same
  pub same_from_counts : (xs ys : List X) → ((x : X) → count_by (e x) xs ≡ count_by (e x) ys) → AreSame xs ys
  same_from_counts xs ys same = record {
    sums = λ f.
        let one = (part_from_counts xs ys (λ x. let is = same x in omega (arith, is))).sums f in
        let other = (part_from_counts ys xs (λ x. let is = same x in omega (arith, is))).sums f in
        omega (arith, one, other);
  }

  -- where no member passes a test that is counted, none passes
  pub none_passes : (p : X → Bool) (xs : List X) → ((x : X) → 0 < count_by (e x) xs → p x ≡ false) → count_by p xs ≡ 0
  none_passes p [] none = refl
  none_passes p (x ∷ xs) none =
      let one = count_first x xs in
      let first : ◌≡◌ {A = ℕ} (cond (p x) 1 0) 0 = ap (λ (b : Bool). cond {A = ℕ} b 1 0) (none x (omega (arith, one))) in
      let rest = none_passes p xs (λ z some. none z (let whole = sum_by-cons (λ y. cond (e z y) 1 0) x xs in omega (arith, some, whole))) in
      omega (arith, first, rest, sum_by-cons (λ y. cond (p y) 1 0) x xs)
