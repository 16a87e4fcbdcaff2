use Rattle.std.proofs.Common.{◌∙◌, sym, ap, false}
use Rattle.std.specs.Option.{option_map_or}
use Rattle.change_feed.specs.Items.{all_members, is_choice}
use Rattle.change_feed.proofs.Entries.{all_members-values}
use Rattle.change_feed.proofs.items.is_object_of_choices.Goals as goal

pub returns-in-Some : goal.returns-in-Some
returns-in-Some c =
    c.are_choices.ensures ∙ sym (all_members-values is_choice c.in-Some.members.now.entries) ∙ ap (λ o. option_map_or (all_members is_choice) o false) c.in-Some.ensures
