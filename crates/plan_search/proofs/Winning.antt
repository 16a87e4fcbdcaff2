-- The winner of a step is a candidate that can be made; what the step makes of it.
use Rattle.std.proofs.Common.{◌≡◌, ◌∙◌, ℕ, Bool, true, false, cond, IsSome, Option, Some, None, List, [], ◌∷◌, ◌++◌, filter, refl, sym, ap, subst}
use Rattle.std.specs.Option.{option_map, option_map_or, option_to_list}
use Rattle.std.specs.List.{All, range_with_len}
use Rattle.std.proofs.lemmas.List.Elements.{All-cons, All-filter, All-head, All-nil, All-tail}
use Rattle.plan_settings.specs.declared.settings.Settings.{Settings}
use Rattle.acceptors.specs.History.{History}
use Rattle.foragers.specs.declared.Seen.{Seen}
use Rattle.foragers.specs.Forage.{Limits, ends_step, is_accepted, score_of, seen_after, seen_of}
use Rattle.plan_rules.proofs.Rising.{All-flat_map}
use Rattle.plan_search.specs.declared.found.Found.{Found}
use Rattle.plan_search.specs.Game.{Game, Move, found_at, found_of}
use Rattle.plan_search.specs.Judging.{entry_at, entry_of, judged_from, limits_at, winning}
use Rattle.plan_search.specs.Leg.{Leg, history_of, idle_step, next_step, state_of, step_won_by, won_step}
use Rattle.plan_search.proofs.RestLaws.{best_holds}

-- what holds of all entries holds of those that a step sees
seen_holds : (P : Seen → Type 0) (limits : Limits) (before entries : List Seen) → All P entries → All P (seen_after limits before entries)
seen_holds P limits before [] all = all
seen_holds P limits before (entry ∷ rest) all =
    let more = before ++ entry ∷ [] in
    All-cons P entry (cond (ends_step limits before entry) [] (seen_after limits more rest)) (All-head P entry rest all)
    (elim (ends_step limits before entry) as (λ (c : Bool). All P (cond c [] (seen_after limits more rest))) [
      | true ↦ All-nil P
      | false ↦ seen_holds P limits more rest (All-tail P entry rest all)
    ])

-- the candidate of an entry's number can be made
abbrev pub IsFound : (ℕ → Option Found) → Seen → Type 0
IsFound found entry = IsSome (found entry.number)

entry_is_found : (settings : Settings) (h : History) (found : ℕ → Option Found) (n : ℕ) (o : Option Found) → found n ≡ o
    → All (IsFound found) (option_to_list (option_map (entry_of settings h n) o))
entry_is_found settings h found n None is = All-nil (IsFound found)
entry_is_found settings h found n (Some f) is =
    All-cons (IsFound found) (entry_of settings h n f) [] (subst (λ (o : Option Found). IsSome o) (sym is) refl) (All-nil (IsFound found))

-- the candidate of the winner can be made
pub winner_is_found : (settings : Settings) (h : History) (found : ℕ → Option Found) (seen : Seen)
    → winning settings h found ≡ Some seen → IsSome (found seen.number)
unfolding winning
winner_is_found settings h found seen is =
    let limits = limits_at settings h in
    let judged = judged_from settings h found 0 settings.select_limit in
    let entries : All (IsFound found) judged =
    All-flat_map (IsFound found) (entry_at settings h found) (range_with_len 0 settings.select_limit)
    (λ k d within. entry_is_found settings h found _ (found _) refl) in
    best_holds (IsFound found) score_of (filter is_accepted (seen_of limits judged)) seen is
    (All-filter is_accepted (IsFound found) (seen_of limits judged) (seen_holds (IsFound found) limits [] judged entries))

module _ {State Line : Type 0} where
  -- where no candidate wins, the next step leaves the state as it was
  pub next_idle : (g : Game State Line) (settings : Settings) (k : ℕ) (leg : Leg State Line)
      → winning settings (history_of g leg) (found_at g k (state_of leg)) ≡ None
      → next_step g settings k leg ≡ idle_step k (state_of leg)
  next_idle g settings k leg none = ap (step_won_by g k (history_of g leg) (state_of leg)) none

  -- where a candidate wins, the next step makes its move
  pub next_won : (g : Game State Line) (settings : Settings) (k : ℕ) (leg : Leg State Line) (seen : Seen) (move : Move State)
      → winning settings (history_of g leg) (found_at g k (state_of leg)) ≡ Some seen
      → g.candidate k seen.number (state_of leg) ≡ Some move
      → next_step g settings k leg ≡ won_step g k (history_of g leg) seen.number move
  next_won g settings k leg seen move wins makes =
      ap (step_won_by g k (history_of g leg) (state_of leg)) wins
      ∙ ap (λ made. option_map_or (won_step g k (history_of g leg) seen.number) made (idle_step k (state_of leg))) makes

  -- the winner of a step has a move
  pub winner_moves : (g : Game State Line) (settings : Settings) (k : ℕ) (leg : Leg State Line) (seen : Seen)
      → winning settings (history_of g leg) (found_at g k (state_of leg)) ≡ Some seen
      → (move : Move State) × (g.candidate k seen.number (state_of leg) ≡ Some move)
  winner_moves g settings k leg seen wins =
      moves (g.candidate k seen.number (state_of leg))
      (winner_is_found settings (history_of g leg) (found_at g k (state_of leg)) seen wins)
    where
      moves : (o : Option (Move State)) → IsSome (option_map (found_of g) o) → (move : Move State) × (o ≡ Some move)
      moves None some = absurd cc
      moves (Some move) some = (move, refl)
