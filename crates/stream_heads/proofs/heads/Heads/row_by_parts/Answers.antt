use Rattle.std.proofs.Common.{List, subst}
use Rattle.plan_rules.specs.declared.row.Part.{Part}
use Rattle.tuple_store.specs.View.{StoreView}
use Rattle.stream_heads.specs.Meant.{AreHeads}
use Rattle.stream_heads.proofs.HeadLaws.{few_more, parts_more}
use Rattle.stream_heads.proofs.heads.Heads.row_by_parts.Goals as goal

pub loop-cell-preserved : goal.loop-cell-preserved
loop-cell-preserved c = record {
  row = parts_more c.args.self.now.now c.cells-cell-items.result.now _ _ _ _ c.loop-cell-test.true c.loop-cell.invariant.row c.in_ok-row.ensures;
  few = few_more c.args.self.now.now (subst (λ (h : StoreView (List Part)). AreHeads h.now) c.self.view_is c.self.invariant.now) _ _ _ _ c.loop-cell.invariant.few c.in_ok-row.ensures;
}
