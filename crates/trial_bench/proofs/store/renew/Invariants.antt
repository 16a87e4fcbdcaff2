use Rattle.std.proofs.Common.{◌≡◌}
use Rattle.trial_bench.proofs.store.renew.Given as goal

abbrev pub invariant-loop-n : goal.invariant-loop-n
invariant-loop-n l = l.store.is_open ≡ l.initial.store.is_open

abbrev pub invariant-loop-row : goal.invariant-loop-row
invariant-loop-row l = l.store.is_open ≡ l.initial.store.is_open
