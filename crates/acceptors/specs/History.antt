-- What a leg has done so far: its start score and its steps, in order.
use Rattle.std.specs.Prelude.{ℕ, List, [], ◌∷◌, ◌++◌, map, fold, length, slice_index_or}
use Rattle.plan_scores.specs.declared.plan_score.PlanScore.{PlanScore}
use Rattle.plan_scores.specs.Best.{better_of}
use Rattle.plan_moves.specs.declared.edit.Touch.{Touch}

-- a step that was done: its score, and the entities that its winner touched, none where it had no winner
pub record Past : Type 0 where
  pub score : PlanScore
  pub touched : List Touch

pub record History : Type 0 where
  pub start : PlanScore
  pub steps : List Past

-- a leg that has just begun
abbrev pub begun : PlanScore → History
begun start = record { start = start; steps = [] }

-- a leg after one more step
abbrev pub went : History → PlanScore → List Touch → History
went h score touched = record { start = h.start; steps = h.steps ++ record { score = score; touched = touched } ∷ [] }

-- the scores of the steps, in order
abbrev pub step_scores : History → List PlanScore
step_scores h = map (λ past. past.score) h.steps

-- the score after so many steps; after none it is the start score
abbrev pub score_after : History → ℕ → PlanScore
score_after h n = slice_index_or (h.start ∷ step_scores h) n h.start

-- the last score
abbrev pub last_score : History → PlanScore
last_score h = score_after h (length h.steps)

-- the greatest of the start score and the steps' scores
abbrev pub best_score : History → PlanScore
best_score h = fold (better_of (λ score. score)) h.start (step_scores h)
