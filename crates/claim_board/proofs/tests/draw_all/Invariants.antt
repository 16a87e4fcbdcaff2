use Rattle.std.proofs.Common.{◌≡◌}
use Rattle.claim_board.proofs.tests.draw_all.Given as goal

abbrev pub invariant-loop : goal.invariant-loop
invariant-loop l = l.pass.board ≡ l.board
