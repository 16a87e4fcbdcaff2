-- The moves of the restaurant's own.
use Rattle.std.specs.Prelude.{◌==◌, ℕ, List, [], ◌∷◌, slice_index, if◌then◌else◌}
use Rattle.std.specs.Prelude.{Option, Some, None, option_and_then}
use Rattle.plan_facts.specs.declared.record.Raw.{Raw}
use Rattle.plan_facts.specs.Plan.{PlanView}
use Rattle.plan_moves.specs.declared.edit.Set.{Set}
use Rattle.plan_moves.specs.Edits.{edit_of}
use Rattle.domain_words.specs.Moves.{fact_picked, gives}
use Rattle.uses.specs.Classes.{party}

-- the party that the word at this place picks of all parties
abbrev pub party_by : PlanView → List ℕ → ℕ → Option Raw
party_by plan words place = fact_picked plan party (slice_index words place)

-- each of two parties gets the other's table, which is its first variable
abbrev pub exchange : Raw → Raw → List Set
exchange one other = edit_of (gives party 0 one other ∷ gives party 0 other one ∷ [])

-- the edit of that, none where the two are one
abbrev pub exchange_of : Raw → Raw → Option (List Set)
exchange_of one other = if one.id == other.id then None else Some (exchange one other)

-- the two parties that the third and the fourth word pick exchange their tables
abbrev pub tables_exchanged : PlanView → List ℕ → Option (List Set)
tables_exchanged plan words =
    option_and_then (λ one. option_and_then (exchange_of one) (party_by plan words 3)) (party_by plan words 2)
