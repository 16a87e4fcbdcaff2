-- A search keeps the weights, and what is printed of its best plan.
use Rattle.std.proofs.Common.{◌≡◌, ◌∙◌, ℕ, zero, suc, Bool, cond, true, false, option_map, List, Option, Some, None, refl, sym, ap}
use Rattle.std.specs.Option.{option_map_or}
use Rattle.plan_scores.specs.Order.{is_better_plan}
use Rattle.plan_facts.specs.Plan.{PlanView, records_of}
use Rattle.plan_moves.specs.declared.edit.Set.{Set}
use Rattle.plan_settings.specs.declared.settings.Settings.{Settings}
use Rattle.plan_rules.specs.Meaning.{Meaning}
use Rattle.plan_rules.specs.Totals.{all_matches, whole_score}
use Rattle.move_selectors.specs.Candidates.{Made}
use Rattle.foragers.specs.declared.Seen.{Seen}
use Rattle.acceptors.specs.History.{History}
use Rattle.plan_json.specs.Domains.{DomainView}
use Rattle.plan_reports.specs.Lines.{lines_text}
use Rattle.plan_search.specs.Game.{found_at}
use Rattle.plan_search.specs.Judging.{winning}
use Rattle.plan_search.specs.Leg.{history_of, idle_step, state_of, step_won_by, won_step}
use Rattle.plan_search.specs.Posed.{Posed, State, candidate_at, move_of, plan_score, state_score}
use Rattle.plan_search.specs.Quiet.{best_lines_after, game, leg_after}
use Rattle.plan_search.specs.RunLines.{best_lines, best_lines_of, text_of}
use Rattle.plan_session.specs.Begun.{IsPosedBy, best_text}
use Rattle.plan_session.specs.Course.{best_in, step_in}
use Rattle.plan_session.proofs.Played.{best_next, state_next}

-- a step keeps the weights
made_keeps : (posed : Posed) (k number : ℕ) (h : History) (before : State) (edit : Option (List Set))
    → (option_map_or (won_step (game posed) k h number) (option_map (move_of before) edit) (idle_step k before)).after.weights
    ≡ before.weights
made_keeps posed k number h before None = refl
made_keeps posed k number h before (Some sets) = refl

won_keeps : (posed : Posed) (k : ℕ) (h : History) (before : State) (winner : Option Seen)
    → (step_won_by (game posed) k h before winner).after.weights ≡ before.weights
won_keeps posed k h before None = refl
won_keeps posed k h before (Some seen) =
    made_keeps posed k seen.number h before (candidate_at posed k seen.number before.plan)

either_keeps : (weights : List ℕ) (a b : State) (c : Bool) → a.weights ≡ weights → b.weights ≡ weights
    → (cond c b a).weights ≡ weights
either_keeps weights a b true of_a of_b = of_b
either_keeps weights a b false of_a of_b = of_a

-- a search keeps the weights
state_keeps : (posed : Posed) (n : ℕ) → (state_of (leg_after posed n)).weights ≡ posed.origin.weights
state_keeps posed zero = refl
state_keeps posed (suc n) =
    let leg = leg_after posed n in
    ap (λ s. s.weights) (state_next posed (suc n) (leg_after posed n))
    ∙ won_keeps posed (suc n) (history_of (game posed) leg) (state_of leg)
    (winning posed.settings (history_of (game posed) leg) (found_at (game posed) (suc n) (state_of leg)))
    ∙ state_keeps posed n

pub best_keeps : (posed : Posed) (n : ℕ) → (best_in posed (leg_after posed n)).weights ≡ posed.origin.weights
best_keeps posed zero = refl
best_keeps posed (suc n) =
    let next = (step_in posed (suc n) (leg_after posed n)).after in
    let best = best_in posed (leg_after posed n) in
    ap (λ s. s.weights) (best_next posed (suc n) (leg_after posed n))
    ∙ either_keeps posed.origin.weights best next (is_better_plan (state_score posed next) (state_score posed best))
    (best_keeps posed n) (ap (λ s. s.weights) (sym (state_next posed (suc n) (leg_after posed n))) ∙ state_keeps posed (suc n))

module _ (m : Meaning) (makers : List Made) (domain : DomainView) (settings : Settings) (posed : Posed)
    (by : IsPosedBy m makers domain settings posed) where
  -- the text of the best plan is that of a state with this plan and these weights
  pub best_text_at : (plan : PlanView) (weights : List ℕ) (state : State) → plan ≡ state.plan → weights ≡ state.weights
      → best_text m domain plan weights ≡ text_of posed (best_lines_of posed state)
  unfolding plan_score
  best_text_at plan weights state is are =
      λ i. lines_text (by.classes i) (by.rules i)
      (best_lines (whole_score (by.means i) (by.rules i) (are i) (is i)) (is i)
      (all_matches (by.means i) (records_of (is i)) (by.rules i) (are i)))

  -- that of a search's best state too
  pub best_text_is : (plan : PlanView) (weights : List ℕ) (n : ℕ) → plan ≡ (best_in posed (leg_after posed n)).plan
      → weights ≡ posed.origin.weights → best_text m domain plan weights ≡ text_of posed (best_lines_after posed n)
  best_text_is plan weights n is are_read =
      best_text_at plan weights (best_in posed (leg_after posed n)) is (are_read ∙ sym (best_keeps posed n))
