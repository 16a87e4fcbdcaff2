use Rattle.std.proofs.Common.{◌≡◌, length}
use Rattle.move_workers.specs.Judging.{worker_of}
use Rattle.move_workers.specs.Teams.{AreAll}
use Rattle.move_workers.proofs.team.followers_of.Given as goal

abbrev pub invariant-copies : goal.invariant-copies
invariant-copies g l = record {
  alike : AreAll (worker_of l.director l.kit.seed) l.all.items;
  count : length l.all.items ≡ l.counter;
}
