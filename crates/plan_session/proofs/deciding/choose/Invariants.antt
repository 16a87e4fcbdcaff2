use Rattle.std.proofs.Common.{◌≡◌, ◌-◌, map}
use Rattle.move_workers.specs.Judging.{found_in}
use Rattle.plan_session.proofs.Asking.{GoesFrom}
use Rattle.plan_session.proofs.deciding.choose.Given as goal

-- the step goes on with the numbers from the next one on, and the team is as before
abbrev pub invariant-batches : goal.invariant-batches
invariant-batches g l =
    let makes = map (λ m. (goal.MoveMaker-dyn g (m.vtable, m.value)).made m.value) l.kit.makers.now in
    let found = found_in g.B.Book.meaning l.kit.seed l.kit.selectors.now makes l.step l.fn.team.worker in
    record {
      team : l.team ≡ l.fn.team;
      goes : GoesFrom l.fn.core l.core l.step found l.first l.count;
    }

abbrev pub decreases-batches : goal.decreases-batches
decreases-batches g l = l.fn.core.settings.select_limit - l.first
