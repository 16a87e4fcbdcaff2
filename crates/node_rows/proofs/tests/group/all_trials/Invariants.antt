use Rattle.std.proofs.Common.{false}
use Rattle.node_rows.specs.Turns.{GroupStands}
use Rattle.node_rows.proofs.tests.group.all_trials.Given as goal

-- the node stands as it did
abbrev pub invariant-loop-one : goal.invariant-loop-one
invariant-loop-one g l = GroupStands false l.rules.numbers l.node
