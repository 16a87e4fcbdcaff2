use Rattle.std.proofs.Common.{◌≡◌}
use Rattle.std.specs.List.{list_all}
use Rattle.std.specs.BTreeMap.{values}
use Rattle.serde_json.specs.View.{view}
use Rattle.change_feed.specs.Items.{is_choice}
use Rattle.change_feed.proofs.items.are_choices.Given as goal

-- all members are right where those that are left are
abbrev pub invariant-loop-value : goal.invariant-loop-value
invariant-loop-value l =
    (goal.iterator-loop-value).can_next l.value-iterator
    × (goal.iterator-loop-value).is_finite l.value-iterator
    × (list_all (λ value. is_choice (view value)) (values l.members) ≡ list_all (λ value. is_choice (view value)) l.value-iterator)
