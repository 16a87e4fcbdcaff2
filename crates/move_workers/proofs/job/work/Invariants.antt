use Rattle.std.proofs.Common.{◌≡◌, ◌-◌, false, map}
use Rattle.claim_board.specs.Boards.{next_after}
use Rattle.move_workers.specs.Jobs.{AreBelow, found_from, verdict_by}
use Rattle.move_workers.specs.Judging.{found_in}
use Rattle.move_workers.proofs.job.work.Given as goal

-- each draw so far has its verdict, and the worker is as before
abbrev pub invariant-draws : goal.invariant-draws
invariant-draws g l =
    let makes = map (λ m. (goal.MoveMaker-dyn g (m.vtable, m.value)).made m.value) l.kit.makers.now in
    let found = found_in g.B.Book.meaning l.kit.seed l.kit.selectors.now makes l.step l.fn.worker in
    record {
      worker : l.worker ≡ l.fn.worker;
      board : l.share.pass.board ≡ l.board;
      whole : l.share.is_short ≡ false;
      below : AreBelow l.board.limit l.share.verdicts.items;
      verdicts : l.share.verdicts.items ≡ map (verdict_by (found_from found l.first)) l.share.pass.draws;
    }

abbrev pub decreases-draws : goal.decreases-draws
decreases-draws g l = l.board.limit - next_after l.share.pass.draws
