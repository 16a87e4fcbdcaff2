use Rattle.std.proofs.Common.{◌≡◌, take}
use Rattle.stream_heads.specs.Standing.{KeepsBase}
use Rattle.head_changes.specs.Takers.{heads_without}
use Rattle.head_changes.proofs.let_go.let_rows_go.Given as goal

-- the records of the rows so far are gone
abbrev pub invariant-loop-row : goal.invariant-loop-row
invariant-loop-row l = record {
  now : l.heads.now ≡ heads_without (take l.row-index l.rows) l.initial.heads.now;
  base : KeepsBase l.initial.heads l.heads;
}
