use Rattle.std.proofs.Common.{◌∙◌, set, ap, sym}
use Rattle.std.proofs.lemmas.List.Edits.{map_over_more}
use Rattle.move_selectors.specs.Pool.{without_links}
use Rattle.move_selectors.proofs.pool.forget_all.Goals as goal

pub loop-part-preserved : goal.loop-part-preserved
loop-part-preserved c =
    ap (set c.loop-part.part-items c.loop-part.part-index) (c.forget_pillars.ensures ∙ ap without_links (sym c.part-item.is))
    ∙ map_over_more without_links c.deref_mut-part-items.result.now c.loop-part.part-items c.loop-part.part-index c.part-item.result c.loop-part-test.true c.loop-part.invariant c.part-item.is
