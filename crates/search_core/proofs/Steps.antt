-- What a step makes of a leg, in the words of the desk.
use Rattle.std.proofs.Common.{◌≡◌, ◌∙◌, ℕ, List, [], ◌∷◌, ◌++◌, map, Option, Some, None, refl, sym, ap, append_assoc}
use Rattle.std.proofs.lemmas.List.{map-append}
use Rattle.std.specs.Option.{option_and_then, option_map}
use Rattle.plan_scores.specs.declared.plan_score.PlanScore.{PlanScore}
use Rattle.plan_settings.specs.declared.settings.Settings.{Settings}
use Rattle.acceptors.specs.History.{History, went}
use Rattle.foragers.specs.declared.Seen.{Seen}
use Rattle.foragers.specs.Forage.{number_of}
use Rattle.plan_search.specs.Game.{Game, Move, found_at, found_of}
use Rattle.plan_search.specs.Judging.{winning}
use Rattle.plan_search.specs.Leg.{Leg as TheLeg, Stepped, history_of, next_step, state_of}
use Rattle.plan_search.specs.Run.{winners}
use Rattle.plan_search.proofs.Legs.{history_of-step, last_score-is, with_step}
use Rattle.plan_search.proofs.Winning.{next_idle, next_won, winner_moves}
use Rattle.search_core.specs.Desk.{Terms, after_found}
use Rattle.search_core.specs.OneThread.{winner_number, won_history}

module _ {State Line : Type 0} where
  -- the winners with one step more
  pub winners-step : (leg : TheLeg State Line) (older : List (TheLeg State Line)) (step : Stepped State)
      → winners (with_step leg step ∷ older) ≡ winners (leg ∷ older) ++ step.winner ∷ []
  winners-step leg older step =
      let winner : Stepped State → Option ℕ = λ s. s.winner in
      ap (λ (xs : List (Option ℕ)). winners older ++ xs) (map-append winner leg.steps (step ∷ []))
      ∙ sym (append_assoc (winners older) (map winner leg.steps) (step.winner ∷ []))

  -- the history after a step whose winner is this entry, if it has one
  abbrev pub history_by : Game State Line → ℕ → TheLeg State Line → Option Seen → History
  history_by g k leg w =
      after_found (history_of g leg) (option_and_then (found_at g k (state_of leg)) (option_map number_of w))

  went_by : (g : Game State Line) (s : Settings) (k : ℕ) (leg : TheLeg State Line) (w : Option Seen)
      → winning s (history_of g leg) (found_at g k (state_of leg)) ≡ w
      → ((next_step g s k leg).winner ≡ option_map number_of w)
      × (history_by g k leg w ≡ history_of g (with_step leg (next_step g s k leg)))
  went_by g s k leg None is =
      let next = next_idle g s k leg is in (
        ap (λ (step : Stepped State). step.winner) next,
        ap (λ (score : PlanScore). went (history_of g leg) score []) (last_score-is g leg)
            ∙ (sym (ap (λ (step : Stepped State). went (history_of g leg) (g.score step.after) step.touched) next)
            ∙ sym (history_of-step g leg (next_step g s k leg))),
      )
  went_by g s k leg (Some seen) is =
      let made = winner_moves g s k leg seen is in
      let next = next_won g s k leg seen made.0 is made.1 in (
        ap (λ (step : Stepped State). step.winner) next,
        ap (λ (o : Option (Move State)). after_found (history_of g leg) (option_map (found_of g) o)) made.1
            ∙ (sym (ap (λ (step : Stepped State). went (history_of g leg) (g.score step.after) step.touched) next)
            ∙ sym (history_of-step g leg (next_step g s k leg))),
      )

  -- the next step's winner is the one that is found
  pub next-winner : (g : Game State Line) (t : Terms) (k : ℕ) (leg : TheLeg State Line)
      → (next_step g t.settings k leg).winner ≡ winner_number t (history_of g leg) (found_at g k (state_of leg))
  next-winner g t k leg = (went_by g t.settings k leg _ refl).0

  -- and the history goes on by it
  pub next-history : (g : Game State Line) (t : Terms) (k : ℕ) (leg : TheLeg State Line)
      → won_history t (history_of g leg) (found_at g k (state_of leg)) ≡ history_of g (with_step leg (next_step g t.settings k leg))
  next-history g t k leg = (went_by g t.settings k leg _ refl).1
