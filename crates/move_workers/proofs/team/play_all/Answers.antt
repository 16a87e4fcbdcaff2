use Rattle.std.proofs.Common.{rules}
use Rattle.move_workers.proofs.team.play_all.Goals as goal

pub follow_all-requires-clause-may : goal.follow_all-requires-clause-may
follow_all-requires-clause-may g c κs within =
    λ k d lt. record {
      judges = rw (c.requires.alike k d lt) c.requires.judges.1;
      own = rw (c.requires.alike k d lt) c.requires.own;
      legal = rw (c.requires.alike k d lt) (search rules);
    }
