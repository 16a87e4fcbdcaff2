use Rattle.std.proofs.Common.{true}
use Rattle.node_rows.specs.Turns.{JoinStands}
use Rattle.node_rows.proofs.tests.pairs.tally_all.Given as goal

-- the node stands as it did
abbrev pub invariant-loop-sides : goal.invariant-loop-sides
invariant-loop-sides g l = JoinStands true l.rules.numbers l.join
