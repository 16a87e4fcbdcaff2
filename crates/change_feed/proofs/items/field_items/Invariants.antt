use Rattle.std.proofs.Common.{◌≡◌, ◌++◌}
use Rattle.serde_json.specs.View.{members_view}
use Rattle.change_feed.specs.Items.{field_items}
use Rattle.change_feed.proofs.items.field_items.Given as goal

-- the items so far, and then those of the members that are left
abbrev pub invariant-loop-key : goal.invariant-loop-key
invariant-loop-key l = l.items ++ field_items (members_view l.key-iterator) ≡ field_items (members_view l.members.entries)
