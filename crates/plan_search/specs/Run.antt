-- The one-thread search: a list of legs, from the lines that were taken at each boundary.
use Rattle.std.specs.Prelude.{ℕ, List, [], ◌∷◌, ◌++◌, length, map, Option}
use Rattle.plan_settings.specs.declared.settings.Settings.{Settings}
use Rattle.plan_search.specs.Game.{Game}
use Rattle.plan_search.specs.Leg.{Leg, best_of, leg_from, state_of, stepped}

module _ {State Line : Type 0} where
  -- a boundary's cut takes lines: where it is the first, or takes some, a leg begins with the best state of the leg before
  abbrev pub cut_at : Game State Line → ℕ → List Line → List (Leg State Line) → List (Leg State Line)
  cut_at g boundary lines [] = leg_from g boundary lines g.origin ∷ []
  cut_at g boundary [] (leg ∷ older) = leg ∷ older
  cut_at g boundary (line ∷ lines) (leg ∷ older) =
      leg_from g boundary (line ∷ lines) (best_of g leg) ∷ leg ∷ older

  -- the newest leg goes on by a step
  abbrev pub step_newest : Game State Line → Settings → ℕ → List (Leg State Line) → List (Leg State Line)
  step_newest g settings k [] = []
  step_newest g settings k (leg ∷ older) = stepped g settings k leg ∷ older

  -- the run up to the newest cut: its legs, the newest first, from the lines that each boundary's cut took, the newest first
  abbrev pub run_to_cut : Game State Line → Settings → List (List Line) → List (Leg State Line)
  run_to_cut g settings [] = []
  run_to_cut g settings (lines ∷ older) =
      cut_at g (length older) lines (step_newest g settings (length older) (run_to_cut g settings older))

  -- the same with the step after the newest cut
  abbrev pub run_to_step : Game State Line → Settings → List (List Line) → List (Leg State Line)
  run_to_step g settings cuts = step_newest g settings (length cuts) (run_to_cut g settings cuts)

  -- the state that a run stands at
  abbrev pub state_in : Game State Line → List (Leg State Line) → State
  state_in g [] = g.origin
  state_in g (leg ∷ older) = state_of leg

  -- the best state of a run: that of its newest leg
  abbrev pub best_in : Game State Line → List (Leg State Line) → State
  best_in g [] = g.origin
  best_in g (leg ∷ older) = best_of g leg

  -- the number of each step's winner, in order
  abbrev pub winners : List (Leg State Line) → List (Option ℕ)
  winners [] = []
  winners (leg ∷ older) = winners older ++ map (λ step. step.winner) leg.steps
