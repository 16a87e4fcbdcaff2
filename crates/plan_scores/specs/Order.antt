-- Which of two scores is better.
use Rattle.std.specs.Prelude.{◌≡◌, ◌<◌, ◌⊎◌, ◌<ℤ◌, ◌↔◌, Bool, IsTrue}
use Rattle.std.specs.declared.cmp.Ordering.{Ordering}
use Rattle.std.specs.declared.cmp.Ordering.TheVariants.{Equal}
use Rattle.std.specs.Ordering.{is_lt, is_gt, is_le, is_ge, on, then_cmp, flip_args, nat_cmp, int_cmp}
use Rattle.plan_scores.specs.declared.score.Score.{Score}
use Rattle.plan_scores.specs.declared.plan_score.PlanScore.{PlanScore}

-- the hard numbers are compared first, then the medium ones, then the soft ones
unfoldable pub score_cmp : Score → Score → Ordering
score_cmp = then_cmp (on (λ s. s.hard) int_cmp) (then_cmp (on (λ s. s.medium) int_cmp) (on (λ s. s.soft) int_cmp))

-- the one with more null variables is less; where there are as many, the scores are compared
unfoldable pub plan_score_cmp : PlanScore → PlanScore → Ordering
plan_score_cmp = then_cmp (flip_args (on (λ p. p.unplaced) nat_cmp)) (on (λ p. p.score) score_cmp)

-- what `a < b`, `a > b`, `a <= b` and `a >= b` answer for scores
abbrev pub is_worse : Score → Score → Bool
is_worse a b = is_lt (score_cmp a b)

abbrev pub is_better : Score → Score → Bool
is_better a b = is_gt (score_cmp a b)

abbrev pub is_no_better : Score → Score → Bool
is_no_better a b = is_le (score_cmp a b)

abbrev pub is_no_worse : Score → Score → Bool
is_no_worse a b = is_ge (score_cmp a b)

-- and for the scores of plans
abbrev pub is_worse_plan : PlanScore → PlanScore → Bool
is_worse_plan a b = is_lt (plan_score_cmp a b)

abbrev pub is_better_plan : PlanScore → PlanScore → Bool
is_better_plan a b = is_gt (plan_score_cmp a b)

abbrev pub is_no_better_plan : PlanScore → PlanScore → Bool
is_no_better_plan a b = is_le (plan_score_cmp a b)

abbrev pub is_no_worse_plan : PlanScore → PlanScore → Bool
is_no_worse_plan a b = is_ge (plan_score_cmp a b)

-- the score a is less at the first of the medium and the soft level at which the two differ
abbrev pub IsLessBelowHard : Score → Score → Type 0
IsLessBelowHard a b = (a.medium <ℤ b.medium) ⊎ ((a.medium ≡ b.medium) × (a.soft <ℤ b.soft))

-- the score a is less at the first level at which the two differ
abbrev pub IsLessFirst : Score → Score → Type 0
IsLessFirst a b = (a.hard <ℤ b.hard) ⊎ ((a.hard ≡ b.hard) × IsLessBelowHard a b)

-- the plan of a has more null variables, or as many and a worse score
abbrev pub IsLessPlaced : PlanScore → PlanScore → Type 0
IsLessPlaced a b = (b.unplaced < a.unplaced) ⊎ ((b.unplaced ≡ a.unplaced) × IsLessFirst a.score b.score)

-- values that compare as equal are the same
abbrev pub TellsApart : {K : Type 0} → (K → K → Ordering) → Type 0
TellsApart {K} cmp = (a b : K) → cmp a b ≡ Equal → a ≡ b

-- a score is worse exactly where it is less at the first level at which the two differ
abbrev pub WorseIsLessFirst : Type 0
WorseIsLessFirst = (a b : Score) → IsTrue (is_worse a b) ↔ IsLessFirst a b

-- a plan's score is worse exactly where more variables are null, or as many and the score is worse
abbrev pub WorseIsLessPlaced : Type 0
WorseIsLessPlaced = (a b : PlanScore) → IsTrue (is_worse_plan a b) ↔ IsLessPlaced a b
