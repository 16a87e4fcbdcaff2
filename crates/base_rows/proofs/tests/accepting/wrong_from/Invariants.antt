use Rattle.std.proofs.Common.{◌≤◌}
use Rattle.base_rows.proofs.tests.accepting.wrong_from.Given as goal

-- the acceptor has done no more steps than there were lines
abbrev pub invariant-loop-i : goal.invariant-loop-i
invariant-loop-i l = l.acceptor.steps ≤ l.i
