use Rattle.std.proofs.Common.{◌≡◌}
use Rattle.move_workers.specs.Jobs.{placed}
use Rattle.move_workers.proofs.batch.place.Given as goal

abbrev pub invariant-verdicts : goal.invariant-verdicts
invariant-verdicts l = l.slots ≡ placed l.initial.slots l.yielded
