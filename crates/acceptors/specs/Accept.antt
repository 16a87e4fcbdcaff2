-- When a candidate of the next step is accepted.
use Rattle.std.specs.Prelude.{◌+◌, ◌-◌, ◌%◌, ℕ, Bool, not, ◌||◌, List, length, drop}
use Rattle.std.specs.List.{list_any}
use Rattle.plan_scores.specs.declared.plan_score.PlanScore.{PlanScore}
use Rattle.plan_scores.specs.Order.{is_better_plan, is_no_worse_plan}
use Rattle.plan_settings.specs.declared.setting.AcceptorKind.{AcceptorKind}
use Rattle.plan_settings.specs.declared.setting.AcceptorKind.TheVariants.{Hill, Late, Tabu, StepCount}
use Rattle.plan_moves.specs.declared.edit.Touch.{Touch}
use Rattle.plan_moves.specs.Edits.{is_same}
use Rattle.acceptors.specs.History.{History, Past, score_after, last_score, best_score}

-- the score so many steps before the next one; the start score where the leg is younger
abbrev pub late_score : ℕ → History → PlanScore
late_score size h = score_after h (length h.steps + 1 - size)

-- the score at the last step whose number is a multiple of the size; the start score where there was none
abbrev pub threshold : ℕ → History → PlanScore
threshold size h = score_after h (length h.steps - length h.steps % size)

-- the entity is one of these
abbrev pub is_among : List Touch → Touch → Bool
is_among entities touch = list_any (λ entity. is_same entity touch) entities

-- the step's winner touched the entity
abbrev pub was_touched : Touch → Past → Bool
was_touched touch past = is_among past.touched touch

-- one of the last steps, as many as the size, touched the entity
abbrev pub is_recent : ℕ → History → Touch → Bool
is_recent size h touch = list_any (was_touched touch) (drop (length h.steps - size) h.steps)

-- a candidate with this score, which touches these entities, is accepted
abbrev pub is_accepted : AcceptorKind → ℕ → History → PlanScore → List Touch → Bool
is_accepted Hill size h score touched = is_no_worse_plan score (last_score h)
is_accepted Late size h score touched =
    is_no_worse_plan score (last_score h) || is_no_worse_plan score (late_score size h)
is_accepted StepCount size h score touched =
    is_no_worse_plan score (last_score h) || is_no_worse_plan score (threshold size h)
is_accepted Tabu size h score touched =
    not (list_any (is_recent size h) touched) || is_better_plan score (best_score h)
