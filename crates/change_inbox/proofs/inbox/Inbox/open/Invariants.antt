use Rattle.std.proofs.Common.{◌≡◌, ℕ, ◌<◌, [], length, Some, slice_get}
use Rattle.change_inbox.specs.Seats.{fresh_seat}
use Rattle.change_inbox.proofs.Ends.{undealt}
use Rattle.change_inbox.proofs.inbox.Inbox.open.Given as goal

abbrev pub invariant-loop-number : goal.invariant-loop-number
invariant-loop-number g l = record {
  table : l.dealer.table_id ≡ l.table.shared.table_id;
  limits : l.table.shared.key ≡ record { seats = l.seats; posts = l.posts; cuts = l.cuts };
  dealer : l.dealer.me ≡ (undealt (record { seats = l.seats; posts = l.posts; cuts = l.cuts }) l.number _, []);
  count : length l.list ≡ l.number;
  seats : (n : ℕ) → n < l.number → slice_get l.list n ≡ Some (fresh_seat (record { table = l.table.shared.table_id; limits = record { seats = l.seats; posts = l.posts; cuts = l.cuts } }) n);
}
