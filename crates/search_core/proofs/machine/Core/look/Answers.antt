use Rattle.std.proofs.Common.{◌≡◌, ◌∙◌, ◌<◌, Bool, true, false, sym, arith}
use Rattle.std.specs.Bool.{OnFalse}
use Rattle.search_core.proofs.Looked.{unjudged-first, unjudged-none}
use Rattle.search_core.proofs.machine.Core.look.Goals as goal

on_false : (b : Bool) (P : Type 0) → b ≡ false → OnFalse b P → P
on_false true P is fact = absurd cc
on_false false P is fact = fact

pub returns-then-not-look_at_next-clause-unjudged : goal.returns-then-not-look_at_next-clause-unjudged
returns-then-not-look_at_next-clause-unjudged c = λ d k.
    let core = c.look_at_next.new.self in
    let judged = c.look_at_next.result in
    let ensures = c.look_at_next.ensures in
    let none = on_false judged _ c.if-not-look_at_next.true ensures.unjudged in
    let stays : core.looked ≡ c.numbers.self.looked = on_false judged _ c.if-not-look_at_next.true ensures.stays in
    let asked : core.asked ≡ c.numbers.self.asked = ensures.asked in
    let more : core.looked < core.asked = omega arith in
    unjudged-first d core.asked core.looked k.asked more k.looked (sym (k.verdicts core.looked) ∙ none)

pub returns-clause-unjudged : goal.returns-clause-unjudged
returns-clause-unjudged c = λ d k.
    let core = c.numbers.self in
    unjudged-none d core.asked core.looked k.asked (omega arith) k.looked
