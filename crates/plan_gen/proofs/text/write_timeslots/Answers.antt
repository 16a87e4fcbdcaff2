use Rattle.plan_gen.proofs.TextLemmas.{written_more, Extends-after}
use Rattle.plan_gen.proofs.text.write_timeslots.Goals as goal

pub returns-in_err-separate-clause-front : goal.returns-in_err-separate-clause-front
returns-in_err-separate-clause-front c = Extends-after _ _ _ _ c.loop-place.invariant c.in_err-separate.ensures.front

pub returns-in_err-write_timeslot-clause-front : goal.returns-in_err-write_timeslot-clause-front
returns-in_err-write_timeslot-clause-front c =
    Extends-after _ _ _ _ c.loop-place.invariant (Extends-after _ _ _ _ c.in_ok-separate.ensures.ok c.in_err-write_timeslot.ensures.front)

pub loop-place-preserved : goal.loop-place-preserved
loop-place-preserved c =
    written_more _ _ _ _ _ _ _ _ c.loop-place.invariant c.in_ok-separate.ensures.ok c.timeslot_at.ensures c.in_ok-write_timeslot.ensures.ok
