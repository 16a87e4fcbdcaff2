use Rattle.std.proofs.Common.{Some, arith}
use Rattle.stream_end.specs.Weights.{weights_at}
use Rattle.stream_end.proofs.Adding.{weighs_more}
use Rattle.stream_end.proofs.rows_end.weigh_all.Goals as goal

pub loop-cells-preserved : goal.loop-cells-preserved
loop-cells-preserved g c = record {
  weighs = weighs_more (weights_at g.B.Book.meaning c.args.heads.now.now (Some c.args.number)) c.args.come.now c.loop-cells.cells-index c.cells-item.result c.args.found.now c.loop-cells.found c.weigh.new.found c.loop-cells-test.true c.cells-item.is c.loop-cells.invariant.weighs c.in_ok-weigh.ensures.weighs;
  cost = omega (arith, c.loop-cells.invariant.cost, c.weigh.ensures.cost);
  read = c.weigh.ensures.read;
}
