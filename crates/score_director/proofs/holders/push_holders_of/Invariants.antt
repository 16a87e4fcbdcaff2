use Rattle.std.proofs.Common.{◌≡◌, ◌++◌, take}
use Rattle.score_director.specs.Holders.{keys_of_holders}
use Rattle.score_director.proofs.holders.push_holders_of.Given as goal

-- the keys of the holders so far were appended
abbrev pub invariant-loop-raw : goal.invariant-loop-raw
invariant-loop-raw l =
    l.keys.items ≡ l.initial.keys.items ++ keys_of_holders l.fact l.class l.ranges (take l.raw-index l.facts)
