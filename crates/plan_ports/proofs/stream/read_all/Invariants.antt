use Rattle.std.proofs.Common.{◌≡◌, ◌-◌, ◌+◌, ◌++◌, true, vec_len}
use Rattle.plan_ports.specs.Outside.{LaterSource}
use Rattle.plan_ports.proofs.stream.read_all.Given as goal

abbrev pub invariant-read : goal.invariant-read
invariant-read g l =
    let before = g.R.Source.state l.fn.src in
    let now = g.R.Source.state l.src in
    record {
      whole : before.tells ≡ true → l.bytes.items ++ now.left ≡ before.left;
      later : LaterSource before now;
    }

abbrev pub decreases-read : goal.decreases-read
decreases-read g l = l.limit + 1 - vec_len l.bytes
