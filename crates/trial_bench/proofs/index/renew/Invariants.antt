use Rattle.std.proofs.Common.{◌≡◌}
use Rattle.trial_bench.specs.Free.{IsFreeFrom}
use Rattle.trial_bench.proofs.index.renew.Given as goal

abbrev pub invariant-loop-round : goal.invariant-loop-round
invariant-loop-round l = record {
  free : IsFreeFrom l.size l.index.now;
  is_open : l.index.is_open ≡ l.fn.index.is_open;
}
