use Rattle.std.proofs.Common.{◌≡◌, map}
use Rattle.std.specs.List.{range_with_len}
use Rattle.move_workers.specs.Judging.{found_in}
use Rattle.move_workers.proofs.batch.judged_in_turn.Given as goal

-- what is found of the numbers so far, and the worker is as before
abbrev pub invariant-numbers : goal.invariant-numbers
invariant-numbers g l =
    let makes = map (λ m. (goal.MoveMaker-dyn g (m.vtable, m.value)).made m.value) l.kit.makers.now in
    let found = found_in g.B.Book.meaning l.kit.seed l.kit.selectors.now makes l.step l.fn.worker in
    record {
      worker : l.worker ≡ l.fn.worker;
      found : l.all.items ≡ map found (range_with_len l.first l.n);
    }
