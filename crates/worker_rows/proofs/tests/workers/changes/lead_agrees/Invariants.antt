use Rattle.std.proofs.Common.{◌≡◌}
use Rattle.worker_rows.proofs.tests.workers.changes.lead_agrees.Given as goal

-- the team stays as it was
abbrev pub invariant-alone : goal.invariant-alone
invariant-alone g l = l.team ≡ l.fn.team
