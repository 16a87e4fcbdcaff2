use Rattle.move_workers.proofs.Slots.{placed-snoc}
use Rattle.move_workers.proofs.batch.place.Goals as goal

pub verdicts-preserved : goal.verdicts-preserved
verdicts-preserved c = rw (placed-snoc, ← c.verdicts.invariant, c.fill.ensures)
