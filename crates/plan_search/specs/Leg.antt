-- A leg of the search: it begins at a boundary with a state, takes lines of a feed, is placed, and goes on step by step.
use Rattle.std.specs.Prelude.{ℕ, Bool, false, List, [], ◌∷◌, ◌++◌, map, fold, Option, None, Some}
use Rattle.std.specs.Option.{option_map_or}
use Rattle.plan_scores.specs.Best.{better_of}
use Rattle.plan_scores.specs.Order.{is_better_plan}
use Rattle.plan_settings.specs.declared.settings.Settings.{Settings}
use Rattle.plan_moves.specs.declared.edit.Touch.{Touch}
use Rattle.foragers.specs.declared.Seen.{Seen}
use Rattle.acceptors.specs.History.{History, Past, best_score}
use Rattle.plan_search.specs.Game.{Game, Move, found_at}
use Rattle.plan_search.specs.Judging.{winning}

-- a step that was done: its number, the number of its winner, if any, the entities that this touched, whether it was better than
-- all of the leg before, and the state after it
pub record Stepped (State : Type 0) : Type 0 where
  pub step : ℕ
  pub winner : Option ℕ
  pub touched : List Touch
  pub is_best : Bool
  pub after : State

-- the boundary of a leg, the state that it began with, the lines that it took, the state after placing, and its steps, in order
pub record Leg (State Line : Type 0) : Type 0 where
  pub boundary : ℕ
  pub origin : State
  pub lines : List Line
  pub start : State
  pub steps : List (Stepped State)

-- a step without a winner leaves the state as it was
abbrev pub idle_step : {State : Type 0} → ℕ → State → Stepped State
idle_step k before = record { step = k; winner = None; touched = []; is_best = false; after = before }

module _ {State Line : Type 0} where
  -- the state of a leg after its steps so far
  abbrev pub state_of : Leg State Line → State
  state_of leg = fold (λ before step. step.after) leg.start leg.steps

  -- what the acceptor knows of a step: the score of the whole state after it, and what its winner touched
  abbrev pub past_of : Game State Line → Stepped State → Past
  past_of g step = record { score = g.score step.after; touched = step.touched }

  -- the history of a leg so far
  abbrev pub history_of : Game State Line → Leg State Line → History
  history_of g leg = record { start = g.score leg.start; steps = map (past_of g) leg.steps }

  -- the first of a leg's states with the greatest score: that after placing, and those after its steps
  abbrev pub best_of : Game State Line → Leg State Line → State
  best_of g leg = fold (better_of g.score) leg.start (map (λ step. step.after) leg.steps)

  -- a step that was won by this move
  abbrev pub won_step : Game State Line → ℕ → History → ℕ → Move State → Stepped State
  won_step g k h number move = record {
    step = k;
    winner = Some number;
    touched = move.touched;
    is_best = is_better_plan (g.score move.after) (best_score h);
    after = move.after;
  }

  -- a step that was won by the candidate under this number
  abbrev pub step_made : Game State Line → ℕ → History → State → ℕ → Stepped State
  step_made g k h before number =
      option_map_or (won_step g k h number) (g.candidate k number before) (idle_step k before)

  -- a step that was won by the candidate of this entry, if by any
  abbrev pub step_won_by : Game State Line → ℕ → History → State → Option Seen → Stepped State
  step_won_by g k h before winner =
      option_map_or (λ seen. step_made g k h before seen.number) winner (idle_step k before)

  -- the next step of a leg
  abbrev pub next_step : Game State Line → Settings → ℕ → Leg State Line → Stepped State
  next_step g settings k leg =
      step_won_by g k (history_of g leg) (state_of leg)
      (winning settings (history_of g leg) (found_at g k (state_of leg)))

  -- a leg with one step more
  abbrev pub stepped : Game State Line → Settings → ℕ → Leg State Line → Leg State Line
  stepped g settings k leg = record leg { steps = leg.steps ++ next_step g settings k leg ∷ [] }

  -- a leg that begins with a state: the lines are handled in order, and the state that they leave is placed
  abbrev pub leg_from : Game State Line → ℕ → List Line → State → Leg State Line
  leg_from g boundary lines state = record {
    boundary = boundary;
    origin = state;
    lines = lines;
    start = g.place (fold g.handle state lines);
    steps = [];
  }
