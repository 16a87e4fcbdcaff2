use Rattle.std.proofs.Common.{◌≡◌}
use Rattle.node_rows.proofs.tests.store.all_steps.Given as goal

abbrev pub invariant-loop : goal.invariant-loop
invariant-loop l = l.store.is_open ≡ l.plain.in_trial
