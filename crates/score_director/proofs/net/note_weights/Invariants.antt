use Rattle.std.proofs.Common.{◌≡◌, take}
use Rattle.score_director.specs.Standing.{totals_of}
use Rattle.score_director.proofs.net.note_weights.Given as goal

-- the totals so far were put down
abbrev pub invariant-loop-net : goal.invariant-loop-net
invariant-loop-net l = l.totals.items ≡ totals_of (take l.net-index l.nets)
