use Rattle.std.proofs.Common.{◌≡◌}
use Rattle.std.specs.List.{flat_map, range_with_len}
use Rattle.score_director.specs.Keys.{keys_in}
use Rattle.score_director.proofs.network.keys_of.Given as goal

-- the keys of the classes so far
abbrev pub invariant-loop-class : goal.invariant-loop-class
invariant-loop-class l = l.keys.items ≡ flat_map (keys_in l.plan) (range_with_len 0 l.class)
