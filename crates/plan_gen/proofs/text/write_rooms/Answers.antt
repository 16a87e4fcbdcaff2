use Rattle.plan_gen.proofs.TextLemmas.{written_more, Extends-after}
use Rattle.plan_gen.proofs.text.write_rooms.Goals as goal

pub returns-in_err-separate-clause-front : goal.returns-in_err-separate-clause-front
returns-in_err-separate-clause-front c = Extends-after _ _ _ _ c.loop-place.invariant c.in_err-separate.ensures.front

pub returns-in_err-write_room-clause-front : goal.returns-in_err-write_room-clause-front
returns-in_err-write_room-clause-front c =
    Extends-after _ _ _ _ c.loop-place.invariant (Extends-after _ _ _ _ c.in_ok-separate.ensures.ok c.in_err-write_room.ensures.front)

pub loop-place-preserved : goal.loop-place-preserved
loop-place-preserved c =
    written_more _ _ _ _ _ _ _ _ c.loop-place.invariant c.in_ok-separate.ensures.ok c.room_at.ensures c.in_ok-write_room.ensures.ok
