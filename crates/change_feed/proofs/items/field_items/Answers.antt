use Rattle.std.proofs.Common.{◌≡◌, ◌∙◌, List, ◌++◌, append-nil, sym, ap, subst}
use Rattle.serde_json.specs.View.{members_view}
use Rattle.plan_changes.specs.Change.{AreFieldsInOrder}
use Rattle.change_feed.specs.Items.{field_items}
use Rattle.change_feed.proofs.Entries.{Entry, fields_in_order}
use Rattle.change_feed.proofs.items.field_items.Goals as goal

pub returns-clause-order : goal.returns-clause-order
returns-clause-order c =
    let entries = c.args.members.now.entries in
    let none_left = ap (λ (es : List Entry). c.loop-key.items ++ field_items (members_view es)) (sym c.in-None.ensures.steps.0) in
    let whole : c.loop-key.items ≡ field_items (members_view entries) = sym (append-nil c.loop-key.items) ∙ none_left ∙ c.loop-key.invariant in
    subst AreFieldsInOrder (sym whole) (fields_in_order entries c.iter-key-items.ensures.ordered)
