use Rattle.std.proofs.Common.{◌≡◌, false}
use Rattle.trial_bench.specs.Free.{IsFreeFrom}
use Rattle.trial_bench.proofs.index.try_out.Given as goal

abbrev pub invariant-loop-round : goal.invariant-loop-round
invariant-loop-round l = record {
  free : IsFreeFrom l.size l.index.now;
  is_open : l.index.is_open ≡ false;
}
