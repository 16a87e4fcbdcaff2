-- Laws of sums of scores.
use Rattle.std.proofs.Common.{◌≡◌, ◌≤◌, ◌<◌, ◌+◌, ◌^◌, ℕ, ℤ, pos, ◌+ℤ◌, ◌-ℤ◌, neg_ℤ, negsuc, ◌≤ℤ◌, List, [], ◌∷◌, ◌++◌, map, sum_by, length, take, get_or, refl, sym, ap, ◌∙◌, arith, unsigned_abs}
use Rattle.std.proofs.lemmas.Int.{ints, fits_signed_from_abs}
use Rattle.std.proofs.lemmas.List.{take_more}
use Rattle.std.proofs.lemmas.List.Sums.{sum_by-cons}
use Rattle.std.specs.Int.{w64}
use Rattle.plan_scores.specs.declared.score.Score.{Score}
use Rattle.plan_scores.specs.declared.level.Level.{Level}
use Rattle.plan_scores.specs.declared.level.Level.TheVariants.{Hard, Medium, Soft}
use Rattle.plan_scores.specs.Sum.{zero_score, score_at, add_scores, minus_scores, sum_of, FitsScore, IsWithin}

-- scores with the same three numbers are the same
pub score_from_levels : (a b : Score) → a.hard ≡ b.hard → a.medium ≡ b.medium → a.soft ≡ b.soft → a ≡ b
score_from_levels a b hard medium soft = λ i. record { hard = hard i; medium = medium i; soft = soft i }

pub add_scores-zero : (a : Score) → add_scores a zero_score ≡ a
add_scores-zero a = score_from_levels _ _ (omega (arith, ints)) (omega (arith, ints)) (omega (arith, ints))

pub zero-add_scores : (a : Score) → add_scores zero_score a ≡ a
zero-add_scores a = score_from_levels _ _ (omega (arith, ints)) (omega (arith, ints)) (omega (arith, ints))

pub add_scores_comm : (a b : Score) → add_scores a b ≡ add_scores b a
add_scores_comm a b = score_from_levels _ _ (omega (arith, ints)) (omega (arith, ints)) (omega (arith, ints))

pub add_scores_assoc : (a b c : Score) → add_scores (add_scores a b) c ≡ add_scores a (add_scores b c)
add_scores_assoc a b c = score_from_levels _ _ (omega (arith, ints)) (omega (arith, ints)) (omega (arith, ints))

-- to add and then take away gives the same score back, and so does the other way round
pub minus_scores-add_scores : (a b : Score) → minus_scores (add_scores a b) b ≡ a
minus_scores-add_scores a b = score_from_levels _ _ (omega (arith, ints)) (omega (arith, ints)) (omega (arith, ints))

pub add_scores-minus_scores : (a b : Score) → add_scores (minus_scores a b) b ≡ a
add_scores-minus_scores a b = score_from_levels _ _ (omega (arith, ints)) (omega (arith, ints)) (omega (arith, ints))

pub sum_of-append : (xs ys : List Score) → sum_of (xs ++ ys) ≡ add_scores (sum_of xs) (sum_of ys)
sum_of-append [] ys = sym (zero-add_scores (sum_of ys))
sum_of-append (x ∷ xs) ys = ap (add_scores x) (sum_of-append xs ys) ∙ sym (add_scores_assoc x (sum_of xs) (sum_of ys))

-- one more score behind a list, and one more at the step of a loop
pub sum_of_push : (xs : List Score) (x : Score) → sum_of (xs ++ x ∷ []) ≡ add_scores (sum_of xs) x
sum_of_push xs x = sum_of-append xs (x ∷ []) ∙ ap (add_scores (sum_of xs)) (add_scores-zero x)

pub sum_of-take : (xs : List Score) (k : ℕ) (d : Score) → k < length xs → sum_of (take (k + 1) xs) ≡ add_scores (sum_of (take k xs)) (get_or xs k d)
sum_of-take xs k d h = ap sum_of (take_more xs k d h) ∙ sum_of_push (take k xs) (get_or xs k d)

pub score_at-zero : (level : Level) → score_at level (pos 0) ≡ zero_score
score_at-zero Hard = refl
score_at-zero Medium = refl
score_at-zero Soft = refl

pub score_at-add : (level : Level) (m n : ℤ) → score_at level (m +ℤ n) ≡ add_scores (score_at level m) (score_at level n)
score_at-add Hard m n = refl
score_at-add Medium m n = refl
score_at-add Soft m n = refl

pub score_at-minus : (level : Level) (m n : ℤ) → score_at level (m -ℤ n) ≡ minus_scores (score_at level m) (score_at level n)
score_at-minus Hard m n = refl
score_at-minus Medium m n = refl
score_at-minus Soft m n = refl

-- rewards and penalties at one level add up to one number there
pub sum_of-rewards : {X : Type 0} (level : Level) (weight : X → ℕ) (xs : List X) → sum_of (map (λ x. score_at level (pos (weight x))) xs) ≡ score_at level (pos (sum_by weight xs))
sum_of-rewards level weight [] = sym (score_at-zero level)
sum_of-rewards level weight (x ∷ xs) =
    rw (sum_by-cons weight x xs) (ap (add_scores (score_at level (pos (weight x)))) (sum_of-rewards level weight xs) ∙ sym (score_at-add level (pos (weight x)) (pos (sum_by weight xs))))

neg_ℤ-add : (m n : ℕ) → neg_ℤ (pos (m + n)) ≡ neg_ℤ (pos m) +ℤ neg_ℤ (pos n)
neg_ℤ-add m n = omega (arith, ints)

pub sum_of-penalties : {X : Type 0} (level : Level) (weight : X → ℕ) (xs : List X) → sum_of (map (λ x. score_at level (neg_ℤ (pos (weight x)))) xs) ≡ score_at level (neg_ℤ (pos (sum_by weight xs)))
sum_of-penalties level weight [] = sym (score_at-zero level)
sum_of-penalties level weight (x ∷ xs) =
    rw (sum_by-cons weight x xs) (ap (add_scores (score_at level (neg_ℤ (pos (weight x))))) (sum_of-penalties level weight xs) ∙ sym (score_at-add level (neg_ℤ (pos (weight x))) (neg_ℤ (pos (sum_by weight xs)))) ∙ ap (score_at level) (sym (neg_ℤ-add (weight x) (sum_by weight xs))))

-- a whole number is within n where it is from -n to n
above_abs : (n : ℕ) (z : ℤ) → unsigned_abs z ≤ n → z ≤ℤ pos n
above_abs n (pos m) h = omega (arith, ints)
above_abs n (negsuc m) h = omega (arith, ints)

below_abs : (n : ℕ) (z : ℤ) → unsigned_abs z ≤ n → neg_ℤ (pos n) ≤ℤ z
below_abs n (pos m) h = omega (arith, ints)
below_abs n (negsuc m) h = omega (arith, ints)

abs_between : (n : ℕ) (z : ℤ) → z ≤ℤ pos n → neg_ℤ (pos n) ≤ℤ z → unsigned_abs z ≤ n
abs_between n (pos m) high low = omega (arith, ints)
abs_between n (negsuc m) high low = omega (arith, ints)

abs-add : (m n : ℕ) (a b : ℤ) → unsigned_abs a ≤ m → unsigned_abs b ≤ n → unsigned_abs (a +ℤ b) ≤ m + n
abs-add m n a b p q =
    let a_low = below_abs m a p in
    let b_low = below_abs n b q in
    let a_high = above_abs m a p in
    let b_high = above_abs n b q in
    abs_between (m + n) (a +ℤ b) (omega (arith, ints)) (omega (arith, ints))

pub IsWithin-add_scores : (m n : ℕ) (a b : Score) → IsWithin m a → IsWithin n b → IsWithin (m + n) (add_scores a b)
IsWithin-add_scores m n a b p q = record {
  hard = abs-add m n a.hard b.hard p.hard q.hard;
  medium = abs-add m n a.medium b.medium p.medium q.medium;
  soft = abs-add m n a.soft b.soft p.soft q.soft;
}

-- a sum is within the sum of what its parts are within
pub IsWithin-sum_of : {X : Type 0} (bound : X → ℕ) (score : X → Score) → ((x : X) → IsWithin (bound x) (score x)) → (xs : List X) → IsWithin (sum_by bound xs) (sum_of (map score xs))
IsWithin-sum_of bound score each [] = record { hard = omega arith; medium = omega arith; soft = omega arith }
IsWithin-sum_of bound score each (x ∷ xs) = rw (sum_by-cons bound x xs) (IsWithin-add_scores (bound x) (sum_by bound xs) (score x) (sum_of (map score xs)) (each x) (IsWithin-sum_of bound score each xs))

pub FitsScore-within : (n : ℕ) (s : Score) → IsWithin n s → n < 2 ^ 63 → FitsScore s
FitsScore-within n s w h = record {
  hard = fits_signed_from_abs w64 s.hard (omega (arith, w.hard));
  medium = fits_signed_from_abs w64 s.medium (omega (arith, w.medium));
  soft = fits_signed_from_abs w64 s.soft (omega (arith, w.soft));
}
