use Rattle.std.proofs.Common.{◌≡◌, ℕ, ◌<◌, ◌≤◌, Some, length, get_or}
use Rattle.move_workers.specs.Judging.{WorkerView, played}
use Rattle.move_workers.specs.Teams.{AreAll, MayMake}
use Rattle.move_workers.proofs.team.follow_each.Given as goal

-- those before this place follow, the others are as before and may
abbrev pub invariant-others : goal.invariant-others
invariant-others g l = record {
  gone : (worker : WorkerView) → AreAll worker l.fn.others → (k : ℕ) (d : WorkerView) → k < l.place
      → get_or l.others k d ≡ played worker (Some l.edit);
  left : (worker : WorkerView) → AreAll worker l.fn.others → (k : ℕ) (d : WorkerView) → l.place ≤ k → k < length l.others
      → get_or l.others k d ≡ worker;
  may : (k : ℕ) (d : WorkerView) → l.place ≤ k → k < length l.others → MayMake l.kit.rules.now.defs l.kit.rules.now.caps l.edit (get_or l.others k d);
}
