use Rattle.std.proofs.Common.{◌-◌, vec_len}
use Rattle.search_core.specs.ByNumber.{AreSame, place_in}
use Rattle.search_core.proofs.by_number.make_places.Given as goal

-- the new places are empty
abbrev pub invariant-places : goal.invariant-places
invariant-places g l = AreSame (place_in l.places.items) (place_in l.initial.places.items)

abbrev pub decreases-places : goal.decreases-places
decreases-places g l = l.count - vec_len l.places
