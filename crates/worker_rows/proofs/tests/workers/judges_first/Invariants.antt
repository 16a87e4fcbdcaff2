use Rattle.std.proofs.Common.{◌≡◌}
use Rattle.worker_rows.proofs.tests.workers.judges_first.Given as goal

-- the team stays as it was
abbrev pub invariant-batches : goal.invariant-batches
invariant-batches g l = l.team ≡ l.fn.team
