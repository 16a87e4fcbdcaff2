use Rattle.std.proofs.Common.{◌≡◌, ◌+◌, ◌<◌, ◌++◌, [], length, map, All}
use Rattle.change_inbox.specs.Law.{holding}
use Rattle.change_inbox.proofs.Ends.{member_of}
use Rattle.change_inbox.proofs.inbox.Inbox.close.Given as goal

abbrev pub invariant-loop-seat : goal.invariant-loop-seat
invariant-loop-seat g l = record {
  table : l.all.table_id ≡ l.fn.self.table;
  holds : l.all.me ≡ (holding l.fn.self.limits l.all.me.0.parts l.all.me.0.members, []);
  some : 0 < l.all.me.0.parts;
  parts : l.all.me.0.parts + length l.seats ≡ l.fn.self.limits.seats;
  members : map member_of l.seats ++ l.all.me.0.members ≡ map member_of l.fn.seats;
  seats : All (λ s. s.inbox ≡ l.fn.self) l.seats;
}

abbrev pub decreases-loop-seat : goal.decreases-loop-seat
decreases-loop-seat g l = length l.seats
