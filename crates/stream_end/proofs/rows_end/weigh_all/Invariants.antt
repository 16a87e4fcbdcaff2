use Rattle.std.proofs.Common.{◌≤◌, ◌+◌, Some, take}
use Rattle.stream_heads.specs.Last.{IsReadBy}
use Rattle.stream_end.specs.Found.{Weighs}
use Rattle.stream_end.specs.Weights.{weights_at}
use Rattle.stream_end.proofs.rows_end.weigh_all.Given as goal

-- the rows so far were weighed
abbrev pub invariant-loop-cells : goal.invariant-loop-cells
invariant-loop-cells g l = record {
  weighs : Weighs (weights_at g.B.Book.meaning l.heads.now (Some l.number)) (take l.cells-index l.come) l.fn.found l.found;
  cost : l.steps ≤ l.initial.steps + l.cells-index;
  read : IsReadBy l.heads.now l.found.asked;
}
