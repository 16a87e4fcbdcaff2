use Rattle.std.proofs.Common.{append_assoc}
use Rattle.plan_gen.specs.Text.{facts_text}
use Rattle.plan_gen.proofs.TextLemmas.{object-is, member-after, quoted-after, array-after}
use Rattle.plan_gen.proofs.text.write_facts.Goals as goal

pub returns-clause-ok : goal.returns-clause-ok
unfolding facts_text
returns-clause-ok c =
    rw (c.in_ok-extend_from_slice-4.ensures.items, c.in_ok-write_timeslots.ensures.ok, c.in_ok-extend_from_slice-3.ensures.items, c.in_ok-write_rooms.ensures.ok, c.in_ok-extend_from_slice-2.ensures.items, c.in_ok-write_lessons.ensures.ok, c.in_ok-extend_from_slice.ensures.items)
    (simp (append_assoc, object-is, member-after, quoted-after, array-after))
