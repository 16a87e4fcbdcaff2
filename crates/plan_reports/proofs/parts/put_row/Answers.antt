use Rattle.plan_reports.proofs.RowText.{part_written}
use Rattle.plan_reports.proofs.parts.put_row.Goals as goal

pub loop-n-preserved : goal.loop-n-preserved
loop-n-preserved c =
    part_written c.args.schema.now c.args.row.now c.loop-n.n c.in-Some.part.now _ _ _ _ c.in-Some.ensures c.loop-n.invariant c.in_ok-put.ensures c.in_ok-put_part.ensures
