use Rattle.std.proofs.Common.{◌∙◌, set, ap, sym}
use Rattle.std.proofs.lemmas.List.Edits.{map_over_more}
use Rattle.plan_facts.specs.PlanChanges.{record_let_go}
use Rattle.plan_facts.proofs.table.let_go_all.Goals as goal

pub loop-raw-preserved : goal.loop-raw-preserved
loop-raw-preserved c =
    ap (set c.loop-raw.raw-items c.loop-raw.raw-index) (c.let_go_one.ensures ∙ ap (record_let_go c.args.class c.args.id c.args.ranges.now) (sym c.raw-item.is))
    ∙ map_over_more (record_let_go c.args.class c.args.id c.args.ranges.now) c.deref_mut-raw-items.result.now c.loop-raw.raw-items c.loop-raw.raw-index c.raw-item.result c.loop-raw-test.true c.loop-raw.invariant c.raw-item.is
