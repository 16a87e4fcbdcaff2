use Rattle.std.proofs.Common.{◌≡◌, ◌∷◌}
use Rattle.std.specs.List.{flat_map, range_with_len}
use Rattle.score_director.specs.Holders.{holder_keys_in}
use Rattle.score_director.proofs.holders.keys_about.Given as goal

-- the fact's own key, and those of its holders in the classes so far
abbrev pub invariant-loop-class : goal.invariant-loop-class
invariant-loop-class l = l.keys.items ≡ l.fact ∷ flat_map (holder_keys_in l.plan l.fact) (range_with_len 0 l.class)
