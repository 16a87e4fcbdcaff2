use Rattle.std.proofs.Common.{◌≡◌, ◌+◌, ◌++◌, length}
use Rattle.std.specs.Vec.Iter.{into_iter_items}
use Rattle.plan_session.proofs.Asking.{JudgedSoFar}
use Rattle.plan_session.proofs.deciding.record_all.Given as goal

-- the numbers so far are judged, and the others are still to come
abbrev pub invariant-founds : goal.invariant-founds
invariant-founds l = record {
  number : l.number ≡ l.first + length l.yielded;
  rest : l.fn.all.items ≡ l.yielded ++ into_iter_items l.found-iterator;
  stands : JudgedSoFar l.fn.core l.core l.step l.first l.fn.all.items (length l.yielded);
}
