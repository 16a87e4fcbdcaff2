use Rattle.std.proofs.Common.{◌≡◌, ◌<◌}
use Rattle.std.specs.Prelude.{slice_range}
use Rattle.change_inbox.specs.Entries.{posts_in}
use Rattle.change_inbox.specs.Seats.{GoesOn}
use Rattle.live_posts.proofs.copying.copy_posts.Given as goal

-- the posts so far were copied, and the seat has gone on
abbrev pub invariant-loop-place : goal.invariant-loop-place
invariant-loop-place g l = record {
  inbox : l.seat.inbox ≡ l.inbox;
  number : l.seat.number ≡ l.fn.seat.number;
  goes : GoesOn l.fn.seat l.seat.seen;
  copies : l.copies ≡ slice_range (posts_in l.fn.seat.seen) l.from l.place;
  empty : l.to < l.from → l.place ≡ l.from;
}
