use Rattle.std.proofs.Common.{length}
use Rattle.score_director.proofs.all.+commit_each.Given as goal

abbrev pub decreases-commit_each : goal.decreases-commit_each
decreases-commit_each l = length l.nets.now
