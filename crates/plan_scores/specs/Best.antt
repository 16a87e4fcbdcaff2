-- The best of a list by a score, the first of equals.
use Rattle.std.specs.Prelude.{◌≡◌, IsTrue, List, [], ◌∷◌, ◌++◌, fold, All, Option, Some, None, if◌then◌else◌}
use Rattle.plan_scores.specs.declared.plan_score.PlanScore.{PlanScore}
use Rattle.plan_scores.specs.Order.{is_better_plan, is_worse_plan, is_no_worse_plan}

-- the next one where it has a greater score than the best so far, else that one
abbrev pub better_of : {A : Type 0} → (A → PlanScore) → A → A → A
better_of score best next = if is_better_plan (score next) (score best) then next else best

-- the first member with the greatest score
abbrev pub first_best : {A : Type 0} → (A → PlanScore) → List A → Option A
first_best score [] = None
first_best score (first ∷ rest) = Some (fold (better_of score) first rest)

-- the first best so far, and one more member
abbrev pub or_better : {A : Type 0} → (A → PlanScore) → Option A → A → A
or_better score None next = next
or_better score (Some best) next = better_of score best next

-- a member stands in a list with a part before it and a part after it
pub record StandsBetween {A : Type 0} (all : List A) (one : A) : Type 0 where
  pub before : List A
  pub after : List A
  pub is : before ++ one ∷ after ≡ all

-- a member that is better than each before it and no worse than each after it
pub record IsFirstBest {A : Type 0} (score : A → PlanScore) (all : List A) (one : A) : Type 0 where
  pub place : StandsBetween all one
  pub better : All (λ other. IsTrue (is_worse_plan (score other) (score one))) place.before
  pub as_good : All (λ other. IsTrue (is_no_worse_plan (score one) (score other))) place.after

-- a first best is a member that is better than each before it and no worse than each after it
abbrev pub FirstBestIsFirst : Type 0 → Type 0
FirstBestIsFirst A =
    (score : A → PlanScore) (all : List A) (one : A) → first_best score all ≡ Some one → IsFirstBest score all one
