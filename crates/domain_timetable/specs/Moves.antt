-- The move that the timetable's maker makes.
use Rattle.std.specs.Prelude.{◌==◌, ℕ, List, [], ◌∷◌, slice_index, if◌then◌else◌}
use Rattle.std.specs.Prelude.{Option, Some, None, option_and_then}
use Rattle.plan_facts.specs.declared.record.Raw.{Raw}
use Rattle.plan_facts.specs.Plan.{PlanView}
use Rattle.plan_moves.specs.declared.edit.Set.{Set}
use Rattle.plan_moves.specs.Edits.{edit_of}
use Rattle.domain_words.specs.Moves.{fact_picked, gives}
use Rattle.domain_timetable.specs.Names.{lesson}

-- the lesson that the word at this place picks of all lessons
abbrev pub lesson_by : PlanView → List ℕ → ℕ → Option Raw
lesson_by plan words place = fact_picked plan lesson (slice_index words place)

-- two lessons exchange their slots, which are their first variables
abbrev pub exchange : Raw → Raw → List Set
exchange one other = edit_of (gives lesson 0 one other ∷ gives lesson 0 other one ∷ [])

-- the edit of that, none where the two are one
abbrev pub slots_exchanged : Raw → Raw → Option (List Set)
slots_exchanged one other = if one.id == other.id then None else Some (exchange one other)

-- the two lessons that the third and the fourth word pick exchange their slots
abbrev pub timetable_made : PlanView → List ℕ → Option (List Set)
timetable_made plan words =
    option_and_then (λ one. option_and_then (slots_exchanged one) (lesson_by plan words 3)) (lesson_by plan words 2)
