use Rattle.std.proofs.Common.{length}
use Rattle.score_director.proofs.all.+roll_each_back.Given as goal

abbrev pub decreases-roll_each_back : goal.decreases-roll_each_back
decreases-roll_each_back l = length l.nets.now
