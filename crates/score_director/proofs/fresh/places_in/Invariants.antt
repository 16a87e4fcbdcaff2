use Rattle.std.proofs.Common.{◌≡◌, length}
use Rattle.score_director.proofs.fresh.places_in.Given as goal

-- as many places as nodes so far
abbrev pub invariant-loop : goal.invariant-loop
invariant-loop l = length l.nodes.items ≡ l.counter
