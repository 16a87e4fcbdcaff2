use Rattle.plan_gen.proofs.TextLemmas.{written_more, Extends-after}
use Rattle.plan_gen.proofs.text.write_lessons.Goals as goal

pub returns-in_err-separate-clause-front : goal.returns-in_err-separate-clause-front
returns-in_err-separate-clause-front c = Extends-after _ _ _ _ c.loop-place.invariant.1 c.in_err-separate.ensures.front

pub returns-in_err-write_lesson-clause-front : goal.returns-in_err-write_lesson-clause-front
returns-in_err-write_lesson-clause-front c =
    Extends-after _ _ _ _ c.loop-place.invariant.1 (Extends-after _ _ _ _ c.in_ok-separate.ensures.ok c.in_err-write_lesson.ensures.front)

pub loop-place-preserved : goal.loop-place-preserved
loop-place-preserved c =
    ((c.next_lesson-lesson.ensures _ c.loop-place.invariant.0).0, written_more _ _ _ _ _ _ _ _ c.loop-place.invariant.1 c.in_ok-separate.ensures.ok (c.next_lesson-lesson.ensures _ c.loop-place.invariant.0).1 c.in_ok-write_lesson.ensures.ok)
