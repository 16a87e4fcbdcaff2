-- The move that the roster's maker makes.
use Rattle.std.specs.Prelude.{◌==◌, ◌||◌, ℕ, Bool, List, [], ◌∷◌, Option, Some, None, slice_index, if◌then◌else◌}
use Rattle.plan_facts.specs.declared.record.Raw.{Raw}
use Rattle.plan_facts.specs.Plan.{PlanView}
use Rattle.plan_moves.specs.declared.edit.Set.{Set}
use Rattle.plan_moves.specs.Edits.{edit_of}
use Rattle.domain_words.specs.Moves.{fact_picked, gives}
use Rattle.domain_roster.specs.Names.{shift}

-- the shift that the word at this place picks of all shifts
abbrev pub shift_by : PlanView → List ℕ → ℕ → Option Raw
shift_by plan words place = fact_picked plan shift (slice_index words place)

-- two of the three shifts are one
abbrev pub is_one_twice : Raw → Raw → Raw → Bool
is_one_twice one other third = (one.id == other.id) || ((one.id == third.id) || (other.id == third.id))

-- the first shift gets the second's worker, which is its first variable, the second the third's, the third the first's
abbrev pub moved_on : Raw → Raw → Raw → List Set
moved_on one other third =
    edit_of (gives shift 0 one other ∷ gives shift 0 other third ∷ gives shift 0 third one ∷ [])

-- the edit of that where all three are there and different
abbrev pub workers_moved_on : Option Raw → Option Raw → Option Raw → Option (List Set)
workers_moved_on (Some one) (Some other) (Some third) =
    if is_one_twice one other third then None else Some (moved_on one other third)
workers_moved_on (Some one) (Some other) None = None
workers_moved_on (Some one) None third = None
workers_moved_on None other third = None

-- the workers of the three shifts that the third to the fifth word pick move on
abbrev pub roster_made : PlanView → List ℕ → Option (List Set)
roster_made plan words = workers_moved_on (shift_by plan words 2) (shift_by plan words 3) (shift_by plan words 4)
