use Rattle.std.proofs.Common.{◌≡◌, ◌<◌, ◌∙◌, ℕ, true, false, sym, ap, arith}
use Rattle.head_changes.specs.Turns.{fact_at, has_key}
use Rattle.head_changes.proofs.Keys.{key_at}
use Rattle.head_changes.proofs.turn.place_of.Goals as goal

true_false : true ≡ false → ⊥
true_false e = cc

pub returns : goal.returns
returns c = λ place is.
    let at = key_at c.args.heads.now.now c.args.key place is in
    let has = c.at-place-items.ensures.found place at.row at.there at.numbers in
    let below : has.0 < c.loop-place.place-index = omega arith in
    true_false (sym is ∙ ap (λ (n : ℕ). has_key c.args.key (fact_at c.args.heads.now.now n)) (sym (has.2)) ∙ c.loop-place.invariant has.0 place below)
