use Rattle.std.proofs.Common.{◌≡◌, ◌<◌, ◌≤◌, ◌-◌, true, length}
use Rattle.move_selectors.specs.Links.{is_same_at}
use Rattle.move_selectors.specs.Movables.{entities_in}
use Rattle.move_selectors.proofs.Pillared.{edit_upto}
use Rattle.move_selectors.proofs.Walked.{set_members}
use Rattle.move_selectors.proofs.pillars.change_members.Given as goal

-- the members before this one are set, and this is the next member
abbrev pub invariant-members : goal.invariant-members
invariant-members l =
    let entities = entities_in l.movables in
    record {
      within : l.at ≤ length entities;
      so_far : l.into ≡ edit_upto (set_members entities l.head l.movables.class l.choice) entities l.at;
      member : l.at < length entities → is_same_at entities l.at l.head ≡ true;
    }

abbrev pub decreases-members : goal.decreases-members
decreases-members l = length (entities_in l.movables) - l.at
