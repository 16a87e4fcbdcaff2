use Rattle.std.proofs.Common.{◌≡◌}
use Rattle.trial_bench.specs.Free.{IsFreeFrom}
use Rattle.trial_bench.proofs.index.fill.Given as goal

abbrev pub invariant-loop-place : goal.invariant-loop-place
invariant-loop-place l = record {
  free : IsFreeFrom l.place l.index.now;
  is_open : l.index.is_open ≡ l.fn.index.is_open;
}
