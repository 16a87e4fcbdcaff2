use Rattle.std.proofs.Common.{◌∙◌, ◌<◌, List, length, ap, arith}
use Rattle.plan_facts.specs.declared.record.Raw.{Raw}
use Rattle.plan_moves.specs.declared.edit.Set.{Set}
use Rattle.plan_moves.specs.Edits.{with_new}
use Rattle.move_selectors.specs.Candidates.{chosen_set}
use Rattle.move_selectors.specs.Movables.{entities_in}
use Rattle.move_selectors.proofs.SameValues.{same_itself}
use Rattle.move_selectors.specs.Links.{values_at}
use Rattle.move_selectors.proofs.Pillared.{edit_upto}
use Rattle.move_selectors.proofs.Walked.{set_members, member_settled, next_same, change-first, change-next, change-whole}
use Rattle.move_selectors.proofs.pillars.change_members.Goals as goal

pub members-init : goal.members-init
members-init c =
    let m = c.args.movables.now in
    let within = c.requires.head.within in
    record {
      within = omega arith;
      so_far = c.requires.empty ∙ change-first m.nullables.now (entities_in m) c.args.head c.requires.head m.class c.args.choice;
      member = λ there. same_itself (values_at (entities_in m) c.args.head);
    }

pub next_member-at-requires-clause-settled : goal.next_member-at-requires-clause-settled
next_member-at-requires-clause-settled c =
    let m = c.args.movables.now in
    member_settled m.nullables.now (entities_in m) c.args.head c.requires.head c.members.at (c.members.invariant.member (let e = c.len.ensures in omega arith))

pub members-preserved : goal.members-preserved
members-preserved c =
    let m = c.args.movables.now in
    let there : c.members.at < length (entities_in m) = (let e = c.len.ensures in omega arith) in
    let same = c.members.invariant.member there in
    record {
      within = c.next_member-at.ensures.within;
      so_far =
          c.in_ok-put_new.ensures.ok
          ∙ ap (λ (edit : List Set). with_new edit c.chosen_set.result) c.members.invariant.so_far
          ∙ ap (with_new (edit_upto (set_members (entities_in m) c.args.head m.class c.args.choice) (entities_in m) c.members.at)) (c.chosen_set.ensures ∙ ap (λ (raw : Raw). chosen_set m.class c.args.choice raw.id) c.entity.ensures)
          ∙ change-next m.nullables.now (entities_in m) c.args.head c.requires.head m.class c.args.choice c.members.at c.next_member-at.result there same c.next_member-at.ensures;
      member = next_same m.nullables.now (entities_in m) c.args.head c.requires.head c.members.at c.next_member-at.result same c.next_member-at.ensures;
    }

pub returns : goal.returns
returns c =
    let m = c.args.movables.now in
    c.members.invariant.so_far
    ∙ change-whole m.nullables.now (entities_in m) c.args.head c.requires.head m.class c.args.choice c.members.at (let e = c.len.ensures in omega arith)
