use Rattle.std.proofs.Common.{append_assoc}
use Rattle.plan_gen.specs.Text.{settings_text}
use Rattle.plan_gen.proofs.TextLemmas.{object-is, object-after, member-after, quoted-after}
use Rattle.plan_gen.proofs.text.write_problem.Goals as goal

pub returns-clause-ok : goal.returns-clause-ok
unfolding settings_text
returns-clause-ok c =
    rw (c.in_ok-extend_from_slice-2.ensures.items, c.in_ok-write-2.ensures.ok, c.in_ok-write.ensures.ok, c.in_ok-write_facts.ensures.ok, c.in_ok-extend_from_slice.ensures.items, object-is)
    (simp (append_assoc, object-after, member-after, quoted-after))
