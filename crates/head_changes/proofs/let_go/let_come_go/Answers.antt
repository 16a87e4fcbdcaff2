use Rattle.std.proofs.Common.{List, ap, refl, ◌∙◌}
use Rattle.stream_heads.specs.declared.cells.Cell.{Cell}
use Rattle.head_changes.specs.Takers.{heads_without}
use Rattle.stream_heads.proofs.Standings.{keeps_on}
use Rattle.head_changes.specs.declared.changes.ClassChange.{ClassChange}
use Rattle.head_changes.proofs.Without.{without_none, without_item}
use Rattle.head_changes.proofs.let_go.let_come_go.Goals as goal

pub loop-change-preserved : goal.loop-change-preserved
loop-change-preserved c = record {
  now =
      without_item (λ (change : ClassChange). change.all.come.items) c.args.changes.now _ _ _ _ _
      c.loop-change-test.true c.change-item.is c.loop-change.invariant.now (c.let_rows_go.ensures.now ∙ ap (λ (rs : List (List Cell)). heads_without rs c.loop-change.heads.now) c.deref.ensures.value);
  base = keeps_on _ _ _ c.loop-change.invariant.base c.let_rows_go.ensures.base;
}

pub loop-change-init : goal.loop-change-init
loop-change-init c = record { now = without_none c.args.heads.now.now; base = record { base = λ is. refl; opened = refl } }
