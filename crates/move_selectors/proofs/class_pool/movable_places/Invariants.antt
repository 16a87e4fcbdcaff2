use Rattle.std.proofs.Common.{◌≡◌}
use Rattle.move_selectors.proofs.Placed.{places_upto}
use Rattle.move_selectors.proofs.class_pool.movable_places.Given as goal

-- the places of the movable ones so far
abbrev pub invariant-loop-place : goal.invariant-loop-place
invariant-loop-place l = l.places.items ≡ places_upto l.facts l.place
