use Rattle.std.proofs.Common.{◌≡◌, take}
use Rattle.stream_heads.specs.Standing.{KeepsBase}
use Rattle.head_changes.specs.Changes.{all_come}
use Rattle.head_changes.specs.Takers.{heads_without}
use Rattle.head_changes.proofs.let_go.let_come_go.Given as goal

-- the records of the classes so far are gone
abbrev pub invariant-loop-change : goal.invariant-loop-change
invariant-loop-change l = record {
  now : l.heads.now ≡ heads_without (all_come (take l.change-index l.changes)) l.initial.heads.now;
  base : KeepsBase l.initial.heads l.heads;
}
