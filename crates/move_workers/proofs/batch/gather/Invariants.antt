use Rattle.std.proofs.Common.{◌≡◌, ℕ, ◌+◌, vec_len, vec_capacity, length, All, Option, true}
use Rattle.claim_board.specs.Boards.{BoardView}
use Rattle.plan_search.specs.declared.found.Found.{Found}
use Rattle.move_workers.specs.Jobs.{AreBelow, IsDone, IsGathered}
use Rattle.move_workers.specs.Judging.{WorkerView}
use Rattle.move_workers.specs.Teams.{AreAll}
use Rattle.move_workers.proofs.batch.gather.Given as goal

abbrev pub invariant-jobs : goal.invariant-jobs
invariant-jobs g l = record {
  workers : vec_len l.workers + vec_len l.jobs ≡ vec_len l.fn.workers + vec_len l.fn.jobs;
  room : vec_capacity l.workers ≡ vec_capacity l.fn.workers;
  len : vec_len l.slots ≡ vec_len l.fn.slots;
  below : All (λ job. AreBelow (vec_len l.fn.slots) job.share.verdicts.items) l.jobs.items;
  left : (worker : WorkerView) → All (λ job. job.worker ≡ worker) l.fn.jobs.items → All (λ job. job.worker ≡ worker) l.jobs.items;
  alike : (worker : WorkerView) → AreAll worker l.fn.workers.items → All (λ job. job.worker ≡ worker) l.fn.jobs.items
      → AreAll worker l.workers.items;
  passes : l.is_whole ≡ true → length l.passes + vec_len l.jobs ≡ length l.fn.passes + vec_len l.fn.jobs;
  done : (board : BoardView) (worker : WorkerView) (found : ℕ → Option Found) → All (IsDone board worker found) l.fn.jobs.items
      → All (IsDone board worker found) l.jobs.items;
  gathered : l.is_whole ≡ true → (board : BoardView) (worker : WorkerView) (found : ℕ → Option Found)
      → IsGathered board found l.fn.passes l.fn.slots.items → All (IsDone board worker found) l.fn.jobs.items
      → IsGathered board found l.passes l.slots.items;
}

abbrev pub decreases-jobs : goal.decreases-jobs
decreases-jobs g l = vec_len l.jobs
