-- What is asked and left at the places of a slice, by its first place and the rest.
use Rattle.std.proofs.Common.{◌≡◌, ℕ, zero, suc, ◌+◌, ◌<◌, List, ◌∷◌, length, slice_index_or, refl, sym, subst, arith}
use Rattle.std.specs.Fork.{AcceptsAt, ChangesAt, ChangesEach}
use Rattle.side_by_side.specs.Places.{AcceptsFrom, ChangesFrom}
use denote.Ref.{MutBor}
use denote.Param.Members.{Shared}

module _ {F T : Type 0} (g : Shared F (ℕ × (MutBor T × Unit {0})) ((Unit {0}) × (MutBor T × Unit {0}))) (f : F) where
  -- what is left from place 0 on is left at each place
  pub changes_all : (xs ys : List T) → ChangesFrom g f 0 xs ys → ChangesEach g f xs ys
  changes_all xs ys all i d lt =
      (refl, subst (λ n. ChangesAt g f n (slice_index_or xs i d) (slice_index_or ys i d)) {x = 0 + i} (omega arith) (all.each i d lt))

  -- what is accepted from a place on is accepted there
  pub accepts_first : (from : ℕ) (xs rest : List T) (x : T) → xs ≡ x ∷ rest → AcceptsFrom g f from xs → AcceptsAt g f from x
  accepts_first from xs rest x is all =
      let whole = subst (AcceptsFrom g f from) is all in
      subst (λ n. AcceptsAt g f n x) {x = from + 0} (omega arith) (whole.each 0 x (omega arith))

  -- what is accepted from a place on is accepted from the next one on
  pub accepts_rest : (from : ℕ) (xs rest : List T) (x : T) → xs ≡ x ∷ rest → AcceptsFrom g f from xs
      → AcceptsFrom g f (from + 1) rest
  accepts_rest from xs rest x is all =
      let whole = subst (AcceptsFrom g f from) is all in
      record {
        room = let r = whole.room in omega arith;
        each = λ k d lt. subst (λ n. AcceptsAt g f n (slice_index_or rest k d)) {x = from + suc k} (omega arith)
            (whole.each (suc k) d (omega arith));
      }

  -- what is left at a place, and from the next one on, is left at each of both
  at_both : (from : ℕ) (x y : T) (rest ys : List T) → ChangesAt g f from x y → ChangesFrom g f (from + 1) rest ys
      → (k : ℕ) (d : T) → k < length (x ∷ rest) → ChangesAt g f (from + k) (slice_index_or (x ∷ rest) k d) (slice_index_or (y ∷ ys) k d)
  at_both from x y rest ys first others zero d lt = subst (λ n. ChangesAt g f n x y) {x = from} (omega arith) first
  at_both from x y rest ys first others (suc k) d lt =
      subst (λ n. ChangesAt g f n (slice_index_or rest k d) (slice_index_or ys k d)) {x = from + 1 + k} (omega arith)
      (others.each k d (omega arith))

  -- what is left at a place, and from the next one on, is left from that place on
  pub changes_both : (from : ℕ) (xs rest ys : List T) (x y : T) → xs ≡ x ∷ rest → ChangesAt g f from x y
      → ChangesFrom g f (from + 1) rest ys → ChangesFrom g f from xs (y ∷ ys)
  changes_both from xs rest ys x y is first others =
      subst (λ l. ChangesFrom g f from l (y ∷ ys)) (sym is)
      (record { len = let n = others.len in omega arith; each = at_both from x y rest ys first others })

  -- where there is no place, nothing is left to do
  pub changes_none : (from : ℕ) (xs : List T) → length xs ≡ 0 → ChangesFrom g f from xs xs
  changes_none from xs none = record { len = refl; each = λ k d lt. absurd (omega arith) }
