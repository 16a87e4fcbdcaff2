use Rattle.std.proofs.Common.{◌∙◌, sym}
use Rattle.serde_json.specs.View.{view}
use Rattle.change_feed.specs.Items.{is_choice}
use Rattle.change_feed.proofs.Entries.{fails_here, holds_here}
use Rattle.change_feed.proofs.items.are_choices.Goals as goal

pub returns-then-not-is_choice : goal.returns-then-not-is_choice
returns-then-not-is_choice c =
    sym (c.loop-value.invariant.2 ∙ fails_here (λ value. is_choice (view value)) _ _ _ c.in-Some.ensures.steps (sym c.is_choice.ensures ∙ c.if-not-is_choice.true))

pub loop-value-preserved : goal.loop-value-preserved
loop-value-preserved c = (
  tt,
  tt,
  c.loop-value.invariant.2 ∙ holds_here (λ value. is_choice (view value)) _ _ _ c.in-Some.ensures.steps (sym c.is_choice.ensures ∙ c.if-not-is_choice.false),
)
