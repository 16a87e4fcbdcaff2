use Rattle.std.proofs.Common.{take}
use Rattle.std.specs.List.{AllZip}
use Rattle.score_director.specs.Rule.{HasPlaces}
use Rattle.score_director.proofs.fresh.places_of.Given as goal

-- those of the rules so far
abbrev pub invariant-loop-net : goal.invariant-loop-net
invariant-loop-net l = AllZip HasPlaces (take l.net-index l.nets) l.found.items
