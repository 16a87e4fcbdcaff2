use Rattle.std.proofs.Common.{◌≡◌, false}
use Rattle.trial_bench.proofs.store.try_out.Given as goal

abbrev pub invariant-loop-round : goal.invariant-loop-round
invariant-loop-round l = l.store.is_open ≡ false
