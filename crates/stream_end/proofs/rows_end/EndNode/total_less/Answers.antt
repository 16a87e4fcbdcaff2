use Rattle.std.proofs.Common.{List, subst}
use Rattle.std.proofs.lemmas.List.{take_all}
use Rattle.stream_heads.specs.declared.cells.Cell.{Cell}
use Rattle.stream_end.specs.Found.{TakesOff}
use Rattle.stream_end.proofs.Adding.{takes_more}
use Rattle.stream_end.proofs.rows_end.EndNode.total_less.Goals as goal

pub loop-cells-preserved : goal.loop-cells-preserved
loop-cells-preserved c = record {
  takes = takes_more c.args.self.now.now c.args.gone.now c.loop-cells.cells-index c.cells-item.result c.args.self.now.total c.loop-cells.total c.without_one-total.result c.loop-cells-test.true c.cells-item.is c.loop-cells.invariant.takes c.without_one-total.ensures;
}

pub returns : goal.returns
returns c =
    subst (λ (rows : List (List Cell)). TakesOff c.args.self.now.now rows c.args.self.now.total c.loop-cells.total)
    (take_all c.loop-cells.cells-index c.args.gone.now c.loop-cells-test.false) c.loop-cells.invariant.takes
