use Rattle.std.proofs.Common.{◌≡◌, ◌+◌, vec_len, vec_capacity, length, All}
use Rattle.claim_board.specs.Boards.{BoardView, fresh_pass}
use Rattle.move_workers.specs.Jobs.{IsIdle}
use Rattle.move_workers.specs.Judging.{WorkerView}
use Rattle.move_workers.specs.Teams.{AreAll}
use Rattle.move_workers.proofs.batch.deal.Given as goal

abbrev pub invariant-passes : goal.invariant-passes
invariant-passes g l = record {
  jobs : vec_len l.jobs + length l.passes ≡ length l.fn.passes;
  left : vec_len l.workers + vec_len l.jobs ≡ vec_len l.fn.workers;
  jobs_room : vec_capacity l.jobs ≡ vec_capacity l.fn.jobs;
  workers_room : vec_capacity l.workers ≡ vec_capacity l.fn.workers;
  alike : (worker : WorkerView) → AreAll worker l.fn.workers.items → AreAll worker l.workers.items;
  boards : (board : BoardView) → AreAll (fresh_pass board) l.fn.passes → AreAll (fresh_pass board) l.passes;
  dealt : (worker : WorkerView) → AreAll worker l.fn.workers.items → All (λ job. job.worker ≡ worker) l.jobs.items;
  idle : (board : BoardView) → AreAll (fresh_pass board) l.fn.passes → All (λ job. IsIdle board job.share) l.jobs.items;
}

abbrev pub decreases-passes : goal.decreases-passes
decreases-passes g l = length l.passes
