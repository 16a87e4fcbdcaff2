use Rattle.std.proofs.Common.{◌∙◌, sym}
use Rattle.serde_json.specs.View.{view}
use Rattle.change_feed.specs.Items.{is_item}
use Rattle.change_feed.proofs.Entries.{fails_here, holds_here}
use Rattle.change_feed.proofs.items.are_items.Goals as goal

pub returns-then-not-is_item : goal.returns-then-not-is_item
returns-then-not-is_item c =
    sym (c.loop-value.invariant.2 ∙ fails_here (λ value. is_item (view value)) _ _ _ c.in-Some.ensures.steps (sym c.is_item.ensures ∙ c.if-not-is_item.true))

pub loop-value-preserved : goal.loop-value-preserved
loop-value-preserved c = (
  tt,
  tt,
  c.loop-value.invariant.2 ∙ holds_here (λ value. is_item (view value)) _ _ _ c.in-Some.ensures.steps (sym c.is_item.ensures ∙ c.if-not-is_item.false),
)
