use Rattle.std.proofs.Common.{◌≡◌, None, replicate}
use Rattle.move_workers.proofs.batch.empty_slots.Given as goal

abbrev pub invariant-slots : goal.invariant-slots
invariant-slots l = l.slots.items ≡ replicate l.counter None
