-- The text of `tour`.
use Rattle.std.specs.Prelude.{◌+◌, ◌-◌, ◌^◌, ℕ, List, [], ◌∷◌, count_by, is_some, length, nat_lt, sum_by, if◌then◌else◌}
use Rattle.plan_facts.specs.Plan.{PlanView}
use Rattle.plan_reports.specs.declared.line.Line.{Line}
use Rattle.plan_reports.specs.declared.line.Line.TheVariants as line
use Rattle.plan_search.specs.Leg.{Leg, Stepped}
use Rattle.plan_search.specs.Posed.{Posed, State, state_score}
use Rattle.plan_search.specs.Quiet.{game, leg_after}
use Rattle.plan_search.specs.Run.{best_in, winners}
use Rattle.plan_search.specs.RunLines.{legs_of, no_feed, quiet_cuts, text_of}

-- how many live facts a plan has
abbrev pub fact_count : PlanView → ℕ
fact_count plan = sum_by (λ class. length class.facts) plan.classes

-- how many steps had a winner
abbrev pub win_count : List (Stepped State) → ℕ
win_count steps = count_by (λ step. is_some step.winner) steps

-- of the first steps of a search
abbrev pub wins_after : Posed → ℕ → ℕ
wins_after posed n = win_count (leg_after posed n).steps

-- one more, up to the greatest u32
abbrev pub one_more : ℕ → ℕ
one_more n = if nat_lt n (2 ^ 32 - 1) then n + 1 else n

-- the lines that sum up a run with these legs and this best state, for the problem of a number and a size: how many live facts it
-- ended with, its legs, its steps, those that had a winner, and the best score
abbrev pub tour_lines : {Change : Type 0} → ℕ → ℕ → Posed → State → List (Leg State Change) → List Line
tour_lines number size posed best legs =
    line.Tour number size ∷ line.Facts (fact_count best.plan) ∷ line.Legs (length legs)
    ∷ line.Steps (length (winners legs)) ∷ line.Wins (count_by is_some (winners legs))
    ∷ line.Best (state_score posed best) ∷ line.End ∷ []

-- what `tour` prints of a generated problem, by its number and size: the sum of the run that `solve` prints
unfoldable pub tour_text : ℕ → ℕ → Posed → List ℕ
tour_text number size posed =
    let legs = legs_of no_feed posed (quiet_cuts posed.settings.steps) in
    text_of posed (tour_lines number size posed (best_in (game posed) legs) legs)
