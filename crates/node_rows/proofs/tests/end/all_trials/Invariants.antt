use Rattle.std.proofs.Common.{false}
use Rattle.node_rows.specs.Turns.{EndStands}
use Rattle.node_rows.proofs.tests.end.all_trials.Given as goal

-- the node stands as it did
abbrev pub invariant-loop-from : goal.invariant-loop-from
invariant-loop-from g l = EndStands false l.rules.numbers l.node
