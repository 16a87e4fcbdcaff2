use Rattle.std.proofs.Common.{◌≡◌, ◌∙◌, ◌+◌, ◌-◌, Some, None, nat_lt, length, sym, ap}
use Rattle.acceptors.specs.Accept.{was_touched}
use Rattle.acceptors.specs.Recent.{step_in, last_touch}
use Rattle.acceptors.specs.Stands.{Kept}
use Rattle.acceptors.proofs.Numbered.{is_from, lt_le, any_from}
use Rattle.acceptors.proofs.Acceptor.is_recent.Goals as goal

pub returns-in-Some : goal.returns-in-Some
returns-in-Some c = λ h s.
    let touch = c.args.touch.now in
    let k = length h.steps - c.args.self.now.size in
    let size = ap (λ (kept : Kept). kept.size) c.self.view_is in
    let steps = ap (λ (kept : Kept). kept.steps) c.self.view_is ∙ s.steps in
    let since : c.saturating_sub.result ≡ k = c.saturating_sub.ensures ∙ (ap (λ n. n - c.self.inside.size) steps ∙ ap (λ n. length h.steps - n) size) in
    let noted = ap (λ (kept : Kept). step_in kept.touched touch) c.self.view_is in
    let found : last_touch touch h.steps ≡ Some c.in-Some.step = sym (s.touched c.requires touch) ∙ (sym noted ∙ (sym c.step_of.ensures ∙ c.in-Some.is)) in
    ap (λ n. nat_lt n c.in-Some.step) since ∙ (lt_le k c.in-Some.step ∙ (ap (is_from (1 + k)) (sym found) ∙ sym (any_from (was_touched touch) 1 k h.steps)))

pub returns-in-None : goal.returns-in-None
returns-in-None c = λ h s.
    let touch = c.args.touch.now in
    let k = length h.steps - c.args.self.now.size in
    let noted = ap (λ (kept : Kept). step_in kept.touched touch) c.self.view_is in
    let found : last_touch touch h.steps ≡ None = sym (s.touched c.requires touch) ∙ (sym noted ∙ (sym c.step_of.ensures ∙ c.in-None.is)) in
    ap (is_from (1 + k)) (sym found) ∙ sym (any_from (was_touched touch) 1 k h.steps)
