-- The edit that exchanges two pillars, by the places at which they begin.
use Rattle.std.specs.Prelude.{ℕ, List}
use Rattle.std.specs.List.{flat_map}
use Rattle.plan_facts.specs.declared.record.Raw.{Raw}
use Rattle.plan_moves.specs.declared.edit.Set.{Set}
use Rattle.plan_moves.specs.Edits.{edit_of}
use Rattle.move_selectors.specs.Links.{values_at}
use Rattle.move_selectors.specs.Candidates.{exchanged_sets}

-- all members of two pillars get the other pillar's values
abbrev pub exchanged_edit : ℕ → List Raw → ℕ → ℕ → List Set
exchanged_edit class entities one other =
    edit_of (flat_map (exchanged_sets class (values_at entities one) (values_at entities other)) entities)
