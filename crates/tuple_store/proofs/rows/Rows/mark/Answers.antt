use Rattle.std.proofs.Common.{◌≡◌, true, is_some, ◌∙◌, ap, inl, inr}
use Rattle.tuple_store.specs.Rows.{is_now}
use Rattle.tuple_store.proofs.LiveLaws.{HasBits-set, held_bit, within_slots}
use Rattle.tuple_store.proofs.rows.Rows.mark.Goals as goal

pub invariant_of-self-in-Kept : goal.invariant_of-self-in-Kept
invariant_of-self-in-Kept g c =
    let s = c.set_bit.ensures in
    let was = c.index_mut-held.ensures.value in
    let now : is_now c.args.mark ≡ true = elim c.in-Kept.is [ inl e ↦ ap is_now e | inr e ↦ ap is_now e ] in
    HasBits-set _ _ c.args.n _ _ c.self.invariant (within_slots _ _ _ was) (ap is_some was) (s.here ∙ held_bit _ now) s.others s.length
