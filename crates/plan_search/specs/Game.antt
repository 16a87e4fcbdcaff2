-- A problem as the search plays it, whatever its plans are made of.
use Rattle.std.specs.Prelude.{ℕ, List, Option, option_map}
use Rattle.plan_scores.specs.declared.plan_score.PlanScore.{PlanScore}
use Rattle.plan_moves.specs.declared.edit.Touch.{Touch}
use Rattle.plan_search.specs.declared.found.Found.{Found}

-- a candidate that may be made: what it leaves, and the entities that it touches
pub record Move (State : Type 0) : Type 0 where
  pub after : State
  pub touched : List Touch

-- where the search begins, what a line of a feed makes of a state, what placing makes of it, what it is worth, and the
-- candidate of a step under a number, if that may be made
pub record Game (State Line : Type 0) : Type 0 where
  pub origin : State
  pub handle : State → Line → State
  pub place : State → State
  pub score : State → PlanScore
  pub candidate : ℕ → ℕ → State → Option (Move State)

-- what is found of a candidate that may be made
abbrev pub found_of : {State Line : Type 0} → Game State Line → Move State → Found
found_of g move = record { score = g.score move.after; touched = move.touched }

-- what is found of a step's candidate under a number; none where it can't be made
abbrev pub found_at : {State Line : Type 0} → Game State Line → ℕ → State → ℕ → Option Found
found_at g step state number = option_map (found_of g) (g.candidate step number state)
