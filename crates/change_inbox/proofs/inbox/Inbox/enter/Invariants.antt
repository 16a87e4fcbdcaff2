use Rattle.std.proofs.Common.{◌≡◌, ◌%◌, []}
use Rattle.change_inbox.specs.Law.{turnover, in_line, number_of, seen_of}
use Rattle.change_inbox.proofs.inbox.Inbox.enter.Given as goal

abbrev pub invariant-loop : goal.invariant-loop
invariant-loop g l = record {
  can : (goal.iterator-loop g).can_next l.iterator';
  ends : (goal.iterator-loop g).is_finite l.iterator';
  table : l.token.table_id ≡ l.fn.token.table_id;
  waits : l.token.me ≡ (in_line l.fn.token.me.0.limits (number_of l.fn.token.me.0) (seen_of l.fn.token.me.0) l.token.me.0.ticket, []);
  ticket : l.ticket ≡ l.token.me.0.ticket % turnover;
}
