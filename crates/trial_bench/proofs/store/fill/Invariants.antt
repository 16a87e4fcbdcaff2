use Rattle.std.proofs.Common.{◌≡◌}
use Rattle.trial_bench.proofs.store.fill.Given as goal

abbrev pub invariant-loop-row : goal.invariant-loop-row
invariant-loop-row l = l.store.is_open ≡ l.initial.store.is_open
