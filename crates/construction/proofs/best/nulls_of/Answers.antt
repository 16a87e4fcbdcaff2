use Rattle.std.proofs.Common.{◌<◌, ◌≤◌, ◌∙◌, length, sym, arith}
use Rattle.construction.proofs.TodoLaws.{few_values, null_pushed, null_passed}
use Rattle.construction.proofs.best.nulls_of.Goals as goal
use Rattle.construction.proofs.best.nulls_of.Goals.{then-is_none+in_ok-push, else-is_none}

pub overflow_cast-place : goal.overflow_cast-place
overflow_cast-place c =
    let few : length c.in-Some.raw.now.values ≤ 2 = few_values c.args.plan.now c.args.entity.class c.args.entity.id c.in-Some.raw.now c.in-Some.ensures.sound (sym c.in-Some.ensures.fact) in
    omega (arith, few)

pub loop-place-preserved : goal.loop-place-preserved
loop-place-preserved c =
    let within : c.loop-place.place < length c.in-Some.raw.now.values = omega arith in
    elim c.if-is_none.branch [
      | then-is_none+in_ok-push w ↦ null_pushed c.in-Some.raw.now.values _ c.loop-place.place _ _ _ within c.as_slice.ensures c.is_none.ensures w.if-is_none.true c.loop-place.invariant (w.vars-is ∙ w.in_ok-push.ensures.ok)
      | else-is_none w ↦ null_passed c.in-Some.raw.now.values _ c.loop-place.place _ _ _ within c.as_slice.ensures c.is_none.ensures w.if-is_none.false c.loop-place.invariant w.vars-is
    ]
