use Rattle.std.proofs.Common.{refl}
use Rattle.stream_heads.proofs.Standings.{keeps_on}
use Rattle.head_changes.proofs.Without.{without_none, without_more}
use Rattle.head_changes.proofs.let_go.let_rows_go.Goals as goal

pub loop-row-preserved : goal.loop-row-preserved
loop-row-preserved c = record {
  now = without_more c.args.rows.now _ _ _ _ _ c.loop-row-test.true c.row-item.is c.loop-row.invariant.now c.let_row_go.ensures.now;
  base = keeps_on _ _ _ c.loop-row.invariant.base c.let_row_go.ensures.base;
}

pub loop-row-init : goal.loop-row-init
loop-row-init c = record { now = without_none c.args.heads.now.now; base = record { base = λ is. refl; opened = refl } }
