use Rattle.std.proofs.Common.{◌≡◌, ◌≤◌, length, take}
use Rattle.stream_group.specs.Keyed.{gone_in}
use Rattle.stream_group.proofs.count.gone_count.Given as goal

-- as many of those so far take a row away
abbrev pub invariant-loop-change : goal.invariant-loop-change
invariant-loop-change l = record {
  count : l.count ≡ length (gone_in (take l.change-index l.changes));
  within : l.count ≤ l.change-index;
}
