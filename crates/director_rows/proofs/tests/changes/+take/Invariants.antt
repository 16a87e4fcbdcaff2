use Rattle.std.proofs.Common.{length}
use Rattle.director_rows.proofs.tests.changes.+take.Given as goal

abbrev pub decreases-take : goal.decreases-take
decreases-take g l = length l.turns.now
