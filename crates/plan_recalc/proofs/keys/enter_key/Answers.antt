use Rattle.std.proofs.Common.{◌≡◌, ◌∙◌, ◌<◌, ◌≤◌, length, get_or, sym, arith}
use Rattle.std.specs.declared.cmp.Ordering.TheVariants.{Less, Equal}
use Rattle.std.specs.Ordering.{int_cmp}
use Rattle.std.specs.Cmp.Lexicographic.{slice_cmp}
use Rattle.plan_rules.specs.Groups.{key_entered}
use Rattle.plan_recalc.proofs.Entered.{entered_at, entered_same, entered_last}
use Rattle.plan_recalc.proofs.keys.enter_key.Goals as goal

pub returns-in-Less : goal.returns-in-Less
returns-in-Less c =
    let within : c.loop-place.place < length c.loop-place.keys.items = omega (arith, c.loop-place.keys.ok.0) in
    let is : slice_cmp int_cmp c.loop-place.key (get_or c.loop-place.keys.items c.loop-place.place c.index.result.now) ≡ Less =
    rw (← c.as_slice.ensures, ← (c.as_slice-in-loop-place.ensures ∙ c.index.ensures)) (sym c.in-Less.ensures) in
    c.in_ok-insert-in-Less.ensures.items ∙ entered_at c.loop-place.key c.loop-place.keys.items c.loop-place.place c.index.result.now within is c.loop-place.invariant.past
    ∙ (λ i. key_entered (c.loop-place.invariant.key i) (c.loop-place.invariant.keys i))

pub returns-in-Equal : goal.returns-in-Equal
returns-in-Equal c =
    let within : c.loop-place.place < length c.loop-place.keys.items = omega (arith, c.loop-place.keys.ok.0) in
    let is : slice_cmp int_cmp c.loop-place.key (get_or c.loop-place.keys.items c.loop-place.place c.index.result.now) ≡ Equal =
    rw (← c.as_slice.ensures, ← (c.as_slice-in-loop-place.ensures ∙ c.index.ensures)) (sym c.in-Equal.ensures) in
    entered_same c.loop-place.key c.loop-place.keys.items c.loop-place.place c.index.result.now within is c.loop-place.invariant.past
    ∙ (λ i. key_entered (c.loop-place.invariant.key i) (c.loop-place.invariant.keys i))

pub returns : goal.returns
returns c =
    let end : length c.loop-place.keys.items ≤ c.loop-place.place = omega (arith, c.loop-place.keys.ok.0) in
    c.in_ok-push.ensures.items ∙ entered_last c.loop-place.key c.loop-place.keys.items c.loop-place.place end c.loop-place.invariant.past
    ∙ (λ i. key_entered (c.loop-place.invariant.key i) (c.loop-place.invariant.keys i))
