-- What a step sees of its judged candidates, and which of them wins.
use Rattle.std.specs.Prelude.{ℕ, Bool, true, false, ◌&&◌, ◌||◌, if◌then◌else◌, List, [], ◌∷◌, ◌++◌, nat_le, count_by, filter, Option, option_map}
use Rattle.plan_scores.specs.declared.plan_score.PlanScore.{PlanScore}
use Rattle.plan_scores.specs.Order.{is_better_plan}
use Rattle.plan_scores.specs.Best.{first_best}
use Rattle.plan_settings.specs.declared.setting.Early.{Early}
use Rattle.plan_settings.specs.declared.setting.Early.TheVariants.{Never, Best, Last}
use Rattle.foragers.specs.declared.Seen.{Seen}

-- what ends a step: so many accepted candidates, or an early pick against the best or the last score
pub record Limits : Type 0 where
  pub accepted : ℕ
  pub early : Early
  pub best : PlanScore
  pub last : PlanScore

-- the limits of these numbers
abbrev pub limits_of : ℕ → Early → PlanScore → PlanScore → Limits
limits_of accepted early best last = record { accepted = accepted; early = early; best = best; last = last }

abbrev pub is_accepted : Seen → Bool
is_accepted entry = entry.accepted

abbrev pub score_of : Seen → PlanScore
score_of entry = entry.score

abbrev pub number_of : Seen → ℕ
number_of entry = entry.number

-- an accepted candidate that ends the step at once
abbrev pub is_picked_early : Limits → Seen → Bool
is_picked_early limits entry =
    elim limits.early [
      | Never ↦ false
      | Best ↦ entry.accepted && is_better_plan entry.score limits.best
      | Last ↦ entry.accepted && is_better_plan entry.score limits.last
    ]

-- a candidate ends the step: it is the last that the limit of accepted ones lets in, or it is picked early
abbrev pub ends_step : Limits → List Seen → Seen → Bool
ends_step limits before entry =
    (entry.accepted && nat_le limits.accepted (count_by is_accepted (before ++ entry ∷ []))) ||
    is_picked_early limits entry

-- the candidates after some others up to the first that ends the step; where none does, all of them
abbrev pub seen_after : Limits → List Seen → List Seen → List Seen
seen_after limits before [] = []
seen_after limits before (entry ∷ rest) =
    entry ∷ (if ends_step limits before entry then [] else seen_after limits (before ++ entry ∷ []) rest)

-- some candidate ends the step
abbrev pub is_ended_after : Limits → List Seen → List Seen → Bool
is_ended_after limits before [] = false
is_ended_after limits before (entry ∷ rest) =
    if ends_step limits before entry then true else is_ended_after limits (before ++ entry ∷ []) rest

-- what the step sees of the judged candidates
abbrev pub seen_of : Limits → List Seen → List Seen
seen_of limits judged = seen_after limits [] judged

-- a limit or an early pick ends the step
abbrev pub is_ended : Limits → List Seen → Bool
is_ended limits judged = is_ended_after limits [] judged

-- the accepted candidate with the greatest score among those seen, the first of equals
abbrev pub winner_of : Limits → List Seen → Option Seen
winner_of limits judged = first_best score_of (filter is_accepted (seen_of limits judged))

-- its number
abbrev pub winning_number : Limits → List Seen → Option ℕ
winning_number limits judged = option_map number_of (winner_of limits judged)
