-- A step of a leg: what it judges, and which candidate wins it.
use Rattle.std.specs.Prelude.{ℕ, Bool, List, Option, option_map, option_to_list}
use Rattle.std.specs.List.{flat_map, range_with_len}
use Rattle.plan_settings.specs.declared.setting.AcceptorKind.TheVariants.{Hill, Late, Tabu, StepCount}
use Rattle.plan_settings.specs.declared.settings.Settings.{Settings}
use Rattle.acceptors.specs.Accept.{is_accepted}
use Rattle.acceptors.specs.History.{History, best_score, last_score}
use Rattle.foragers.specs.declared.Seen.{Seen}
use Rattle.foragers.specs.Forage.{Limits, limits_of, winner_of}
use Rattle.plan_search.specs.declared.found.Found.{Found}

-- how many steps back the acceptor looks; hill climbing doesn't look back
abbrev pub acceptor_size : Settings → ℕ
acceptor_size settings =
    elim settings.acceptor [
      | Hill ↦ 1
      | Late ↦ settings.late_size
      | Tabu ↦ settings.tabu_size
      | StepCount ↦ settings.step_count_size
    ]

-- whether the next step of a leg accepts a candidate of which this was found
abbrev pub accepts_found : Settings → History → Found → Bool
accepts_found settings h found =
    is_accepted settings.acceptor (acceptor_size settings) h found.score found.touched

-- a candidate as the step judges it: its number, the score after it, and whether it is accepted
abbrev pub entry_of : Settings → History → ℕ → Found → Seen
entry_of settings h number found =
    record { number = number; score = found.score; accepted = accepts_found settings h found }

-- the entry of a number; none where its candidate can't be made
abbrev pub entry_at : Settings → History → (ℕ → Option Found) → ℕ → List Seen
entry_at settings h found number = option_to_list (option_map (entry_of settings h number) (found number))

-- the entries of so many numbers from the first one on, in order of number
abbrev pub judged_from : Settings → History → (ℕ → Option Found) → ℕ → ℕ → List Seen
judged_from settings h found first count = flat_map (entry_at settings h found) (range_with_len first count)

-- what ends the next step of a leg
abbrev pub limits_at : Settings → History → Limits
limits_at settings h =
    limits_of settings.accepted_limit settings.pick_early (best_score h) (last_score h)

-- the entry that wins the next step of a leg, of all numbers below the limit
unfoldable pub winning : Settings → History → (ℕ → Option Found) → Option Seen
winning settings h found = winner_of (limits_at settings h) (judged_from settings h found 0 settings.select_limit)
