use Rattle.std.proofs.Common.{◌≡◌}
use Rattle.inbox_rows.proofs.tests.inbox.post_all.Given as goal

abbrev pub invariant-loop-n : goal.invariant-loop-n
invariant-loop-n g l = record {
  inbox : l.seat.inbox ≡ l.inbox;
  number : l.seat.number ≡ l.fn.seat.number;
}
