use Rattle.std.proofs.Common.{take}
use Rattle.stream_heads.specs.Standing.{KeepsBase, TakesIn}
use Rattle.stream_end.specs.Weights.{all_ones}
use Rattle.stream_end.proofs.rows_end.keep_ones.Given as goal

-- the rows so far are kept with the weight 1
abbrev pub invariant-loop-cells : goal.invariant-loop-cells
invariant-loop-cells l = record {
  come : TakesIn l.initial.kept.now l.kept.now (all_ones (take l.cells-index l.come));
  base : KeepsBase l.initial.kept l.kept;
}
