use Rattle.std.proofs.Common.{length}
use Rattle.trial_bench.proofs.index.look_up.Given as goal

abbrev pub decreases-loop : goal.decreases-loop
decreases-loop l = length l.into
