use Rattle.std.proofs.Common.{◌≡◌, ℕ, ◌<◌, ◌≤◌, length, get_or}
use Rattle.move_workers.specs.Judging.{WorkerView, with_director}
use Rattle.move_workers.specs.Teams.{AreAll}
use Rattle.move_workers.proofs.team.restart_each.Given as goal

-- those before this place have the director, the others are as before
abbrev pub invariant-others : goal.invariant-others
invariant-others g l = record {
  gone : (worker : WorkerView) → AreAll worker l.fn.others → (k : ℕ) (d : WorkerView) → k < l.place
      → get_or l.others k d ≡ with_director worker l.director;
  left : (worker : WorkerView) → AreAll worker l.fn.others → (k : ℕ) (d : WorkerView) → l.place ≤ k → k < length l.others
      → get_or l.others k d ≡ worker;
}
