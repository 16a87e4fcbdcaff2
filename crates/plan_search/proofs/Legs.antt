-- Legs: what one step more makes of them, and what their histories tell.
use Rattle.std.proofs.Common.{◌≡◌, ◌∙◌, Bool, true, false, cond, List, [], ◌∷◌, ◌++◌, fold, get_or, length, map, refl, ap}
use Rattle.std.proofs.lemmas.List.{map-append}
use Rattle.std.proofs.lemmas.List.Sums.{fold-append}
use Rattle.plan_scores.specs.declared.plan_score.PlanScore.{PlanScore}
use Rattle.plan_scores.specs.Best.{better_of}
use Rattle.plan_scores.specs.Order.{is_better_plan}
use Rattle.acceptors.specs.History.{best_score, last_score, went}
use Rattle.plan_search.specs.Game.{Game}
use Rattle.plan_search.specs.Leg.{Leg, Stepped, best_of, history_of, past_of, state_of}

module _ {State Line : Type 0} where
  -- a leg with one step more
  abbrev pub with_step : Leg State Line → Stepped State → Leg State Line
  with_step leg step = record leg { steps = leg.steps ++ step ∷ [] }

  -- its state is that after the step
  pub state_of-step : (leg : Leg State Line) (step : Stepped State) → state_of (with_step leg step) ≡ step.after
  state_of-step leg step = fold-append (λ (before : State) (s : Stepped State). s.after) leg.start leg.steps (step ∷ [])

  -- its history went on by the score after the step and what its winner touched
  pub history_of-step : (g : Game State Line) (leg : Leg State Line) (step : Stepped State)
      → history_of g (with_step leg step) ≡ went (history_of g leg) (g.score step.after) step.touched
  history_of-step g leg step =
      ap (λ steps. record { start = g.score leg.start; steps = steps }) (map-append (past_of g) leg.steps (step ∷ []))

  -- its best state is the best of the leg before, or that after the step where this is better
  pub best_of-step : (g : Game State Line) (leg : Leg State Line) (step : Stepped State)
      → best_of g (with_step leg step) ≡ better_of g.score (best_of g leg) step.after
  best_of-step g leg step =
      let after : Stepped State → State = λ s. s.after in
      ap (fold (better_of g.score) leg.start) (map-append after leg.steps (step ∷ []))
      ∙ fold-append (better_of g.score) leg.start (map after leg.steps) (step.after ∷ [])

  score_either : (g : Game State Line) (a b : State) (c : Bool) → cond c (g.score b) (g.score a) ≡ g.score (cond c b a)
  score_either g a b true = refl
  score_either g a b false = refl

  -- the better of two scores is the score of the better state
  score_of_better : (g : Game State Line) (a b : State)
      → better_of (λ (score : PlanScore). score) (g.score a) (g.score b) ≡ g.score (better_of g.score a b)
  score_of_better g a b = score_either g a b (is_better_plan (g.score b) (g.score a))

  best_from : (g : Game State Line) (a : State) (steps : List (Stepped State))
      → fold (better_of (λ (score : PlanScore). score)) (g.score a) (map (λ past. past.score) (map (past_of g) steps))
      ≡ g.score (fold (better_of g.score) a (map (λ s. s.after) steps))
  best_from g a [] = refl
  best_from g a (step ∷ rest) =
      ap (λ best. fold (better_of (λ (score : PlanScore). score)) best (map (λ past. past.score) (map (past_of g) rest)))
      (score_of_better g a step.after)
      ∙ best_from g (better_of g.score a step.after) rest

  -- the best score of a leg's history is that of its best state
  pub best_score-is : (g : Game State Line) (leg : Leg State Line) → best_score (history_of g leg) ≡ g.score (best_of g leg)
  best_score-is g leg = best_from g leg.start leg.steps

  last_from : (g : Game State Line) (a : State) (d : PlanScore) (steps : List (Stepped State))
      → get_or (g.score a ∷ map (λ past. past.score) (map (past_of g) steps)) (length (map (past_of g) steps)) d
      ≡ g.score (fold (λ (before : State) (s : Stepped State). s.after) a steps)
  last_from g a d [] = refl
  last_from g a d (step ∷ rest) = last_from g step.after d rest

  -- the last score of a leg's history is that of its state
  pub last_score-is : (g : Game State Line) (leg : Leg State Line) → last_score (history_of g leg) ≡ g.score (state_of leg)
  last_score-is g leg = last_from g leg.start (g.score leg.start) leg.steps
