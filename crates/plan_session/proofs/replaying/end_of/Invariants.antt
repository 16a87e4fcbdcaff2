use Rattle.std.proofs.Common.{◌≤◌, ◌<◌, ◌-◌, ℕ, suc, get_or, length}
use Rattle.plan_session.proofs.replaying.end_of.Given as goal

abbrev pub invariant-lines : goal.invariant-lines
invariant-lines l = record {
  later : l.from ≤ l.end;
  within : l.end ≤ length l.bounds;
  before : (i d : ℕ) → i < l.end → get_or l.bounds i d < suc l.boundary;
  behind : (i d : ℕ) → l.end ≤ i → i < length l.bounds → l.boundary ≤ get_or l.bounds i d;
}

abbrev pub decreases-lines : goal.decreases-lines
decreases-lines l = length l.bounds - l.end
