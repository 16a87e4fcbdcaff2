use Rattle.std.proofs.Common.{◌∙◌, ap, not, sym}
use Rattle.plan_moves.specs.Edits.{is_set_in, with_set}
use Rattle.plan_moves.proofs.Order.{IsPut, is_put}
use Rattle.plan_moves.proofs.edit.Edit.put.Goals as goal

put_there : (c : goal.In_ok-insert) → IsPut c.self.inside.sets.items c.args.set c.place_for-place.result
put_there c =
    is_put c.self.inside.sets.items c.args.set c.place_for-place.result c.self.invariant
    (rw c.deref.ensures.value at c.place_for-place.ensures.within)
    (rw c.deref.ensures.value at c.place_for-place.ensures.after)
    (rw c.deref.ensures.value at c.place_for-place.ensures.before)
    (λ some. sym (rw c.deref-2.ensures.value at (c.is_just_before.ensures.answer some)) ∙ c.if-is_just_before.false)

pub invariant_of-self-2 : goal.invariant_of-self-2
invariant_of-self-2 c = rw c.in_ok-insert.ensures.items (put_there c).order

pub returns-clause-answer : goal.returns-clause-answer
returns-clause-answer c = sym (ap not (ap (λ sets. is_set_in sets c.args.set) (sym c.self.view_is) ∙ (put_there c).new))

pub returns-clause-now : goal.returns-clause-now
returns-clause-now c = c.in_ok-insert.ensures.items ∙ sym (ap (λ sets. with_set sets c.args.set) (sym c.self.view_is) ∙ (put_there c).is)
