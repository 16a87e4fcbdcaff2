use Rattle.std.proofs.Common.{length}
use Rattle.score_director.proofs.all.+begin_each.Given as goal

abbrev pub decreases-begin_each : goal.decreases-begin_each
decreases-begin_each l = length l.nets.now
