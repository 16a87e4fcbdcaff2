use Rattle.std.proofs.Common.{take}
use Rattle.stream_end.specs.Found.{TakesOff}
use Rattle.stream_end.proofs.rows_end.EndNode.total_less.Given as goal

-- the weights of the rows so far were taken off
abbrev pub invariant-loop-cells : goal.invariant-loop-cells
invariant-loop-cells l = record {
  takes : TakesOff l.self.now (take l.cells-index l.gone) l.self.total l.total;
}
