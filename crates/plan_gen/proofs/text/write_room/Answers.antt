use Rattle.std.proofs.Common.{append_assoc}
use Rattle.plan_gen.proofs.TextLemmas.{object-is, member-after, quoted-after}
use Rattle.plan_gen.proofs.text.write_room.Goals as goal

pub returns-clause-ok : goal.returns-clause-ok
returns-clause-ok c =
    rw (c.in_ok-extend_from_slice.ensures.items, c.in_ok-write-2.ensures.ok, c.in_ok-write.ensures.ok)
    (simp (append_assoc, object-is, member-after, quoted-after))
