use Rattle.std.proofs.Common.{◌∙◌, set, ap, sym}
use Rattle.std.proofs.lemmas.List.Edits.{map_over_more}
use Rattle.plan_facts.specs.PlanChanges.{class_let_go}
use Rattle.plan_facts.proofs.plan.let_go_in.Goals as goal

pub loop-table-preserved : goal.loop-table-preserved
loop-table-preserved c =
    ap (set c.loop-table.table-items c.loop-table.table-index) (c.let_go.ensures ∙ ap (class_let_go c.args.class c.args.id) (sym c.table-item.is))
    ∙ map_over_more (class_let_go c.args.class c.args.id) c.deref_mut-table-items.result.now c.loop-table.table-items c.loop-table.table-index c.table-item.result c.loop-table-test.true c.loop-table.invariant c.table-item.is
