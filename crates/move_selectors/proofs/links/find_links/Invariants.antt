use Rattle.move_selectors.specs.Linked.{AreLinked}
use Rattle.move_selectors.specs.Pool.{at_places}
use Rattle.move_selectors.proofs.links.find_links.Given as goal

-- the entities so far are linked
abbrev pub invariant-loop-at : goal.invariant-loop-at
invariant-loop-at l = AreLinked l.nullables (at_places l.facts l.places) l.at l.links
