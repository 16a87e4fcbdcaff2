-- Scores that are added up and taken away.
use Rattle.std.specs.Prelude.{◌≡◌, ◌≤◌, ◌<◌, ◌+◌, ◌^◌, ℕ, ℤ, pos, ◌+ℤ◌, ◌-ℤ◌, neg_ℤ, List, [], ◌∷◌, ◌++◌, map, sum, FitsSigned, unsigned_abs}
use Rattle.std.specs.Int.{w64}
use Rattle.plan_scores.specs.declared.score.Score.{Score}
use Rattle.plan_scores.specs.declared.level.Level.{Level}
use Rattle.plan_scores.specs.declared.level.Level.TheVariants.{Hard, Medium, Soft}

-- nothing at any level
abbrev pub zero_score : Score
zero_score = record { hard = pos 0; medium = pos 0; soft = pos 0 }

-- the number at one level, and nothing at the others
abbrev pub score_at : Level → ℤ → Score
score_at Hard n = record { hard = n; medium = pos 0; soft = pos 0 }
score_at Medium n = record { hard = pos 0; medium = n; soft = pos 0 }
score_at Soft n = record { hard = pos 0; medium = pos 0; soft = n }

-- the sum and the difference, level by level
abbrev pub add_scores : Score → Score → Score
add_scores a b = record { hard = a.hard +ℤ b.hard; medium = a.medium +ℤ b.medium; soft = a.soft +ℤ b.soft }

abbrev pub minus_scores : Score → Score → Score
minus_scores a b = record { hard = a.hard -ℤ b.hard; medium = a.medium -ℤ b.medium; soft = a.soft -ℤ b.soft }

-- all scores of a list, added up
abbrev pub sum_of : List Score → Score
sum_of [] = zero_score
sum_of (s ∷ ss) = add_scores s (sum_of ss)

-- each of the three numbers fits in an i64
pub record FitsScore (s : Score) : Type 0 where
  pub hard : FitsSigned w64 s.hard
  pub medium : FitsSigned w64 s.medium
  pub soft : FitsSigned w64 s.soft

-- each of the three numbers is from -n to n
pub record IsWithin (n : ℕ) (s : Score) : Type 0 where
  pub hard : unsigned_abs s.hard ≤ n
  pub medium : unsigned_abs s.medium ≤ n
  pub soft : unsigned_abs s.soft ≤ n

-- what was added can be taken away again, and what was taken away can be added again
abbrev pub AddingCanBeUndone : Type 0
AddingCanBeUndone = (a b : Score) → minus_scores (add_scores a b) b ≡ a

abbrev pub TakingAwayCanBeUndone : Type 0
TakingAwayCanBeUndone = (a b : Score) → add_scores (minus_scores a b) b ≡ a

-- two lists one behind the other add up to the sum of their sums
abbrev pub SumsJoin : Type 0
SumsJoin = (xs ys : List Score) → sum_of (xs ++ ys) ≡ add_scores (sum_of xs) (sum_of ys)

-- impacts at one level add up to the sum of their numbers there, as rewards and as penalties
abbrev pub RewardsAddUp : Type 0
RewardsAddUp = (level : Level) (weights : List ℕ)
    → sum_of (map (λ w. score_at level (pos w)) weights) ≡ score_at level (pos (sum weights))

abbrev pub PenaltiesAddUp : Type 0
PenaltiesAddUp = (level : Level) (weights : List ℕ)
    → sum_of (map (λ w. score_at level (neg_ℤ (pos w))) weights) ≡ score_at level (neg_ℤ (pos (sum weights)))

-- a sum of two is within the sum of their bounds, and what is within a bound below 2^63 fits
abbrev pub BoundsAddUp : Type 0
BoundsAddUp = (m n : ℕ) (a b : Score) → IsWithin m a → IsWithin n b → IsWithin (m + n) (add_scores a b)

abbrev pub WithinFits : Type 0
WithinFits = (n : ℕ) (s : Score) → IsWithin n s → n < 2 ^ 63 → FitsScore s
