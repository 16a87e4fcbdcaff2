use Rattle.std.proofs.Common.{length}
use Rattle.score_director.proofs.all.+foresee_all.Given as goal

abbrev pub decreases-foresee_all : goal.decreases-foresee_all
decreases-foresee_all g l = length l.nets.now
