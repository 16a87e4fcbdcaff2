use Rattle.std.proofs.Common.{length}
use Rattle.worker_rows.proofs.tests.workers.changes.+take.Given as goal

abbrev pub decreases-take : goal.decreases-take
decreases-take g l = length l.turns.now
