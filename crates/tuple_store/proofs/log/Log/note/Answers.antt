use Rattle.std.proofs.Common.{◌≡◌, ◌≢◌, ◌<◌, List, ℕ, arith, ap, ◌∙◌}
use Rattle.tuple_store.specs.Bits.{bit_of}
use Rattle.tuple_store.specs.Log.{LogView}
use Rattle.tuple_store.proofs.LogLaws.{length-log_push, log_push, new_number, true_false}
use Rattle.tuple_store.proofs.log.Log.note.Goals as goal

pub push_reserved-requires : goal.push_reserved-requires
push_reserved-requires c =
    let i = c.self.invariant in
    let unset : bit_of c.self.inside.noted.items c.args.n ≢ 1 = λ e. true_false (c.has_bit.ensures.1 (ap (λ (ws : List ℕ). bit_of ws c.args.n) c.as_slice.ensures.value ∙ e)) c.if-not-has_bit.true in
    let within : c.args.n < c.self.inside.room = rw (ap (λ (v : LogView). v.room) c.self.view_is) c.requires in
    let le = length-log_push _ _ _ _ _ i c.args.n within (new_number _ _ _ _ _ i c.args.n unset) in
    omega (arith, i.fits, i.counted)

pub invariant_of-self : goal.invariant_of-self
invariant_of-self c =
    let i = c.self.invariant in
    let p = c.push_reserved.ensures in
    let s = c.set_bit.ensures in
    let unset : bit_of c.self.inside.noted.items c.args.n ≢ 1 = λ e. true_false (c.has_bit.ensures.1 (ap (λ (ws : List ℕ). bit_of ws c.args.n) c.as_slice.ensures.value ∙ e)) c.if-not-has_bit.true in
    let within : c.args.n < c.self.inside.room = rw (ap (λ (v : LogView). v.room) c.self.view_is) c.requires in
    rw (p.items, p.len, p.capacity) (log_push _ _ _ _ _ i c.args.n within (new_number _ _ _ _ _ i c.args.n unset) _ s.here s.others s.length)
