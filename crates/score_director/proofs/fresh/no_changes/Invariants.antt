use Rattle.std.proofs.Common.{◌≡◌, length}
use Rattle.score_director.proofs.fresh.no_changes.Given as goal

-- as many changes as classes so far
abbrev pub invariant-loop : goal.invariant-loop
invariant-loop l = length l.changes.items ≡ l.counter
