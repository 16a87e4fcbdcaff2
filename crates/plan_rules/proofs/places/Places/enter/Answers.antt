use Rattle.std.proofs.Common.{◌≡◌, ◌∙◌, false, sym, ap, inr}
use Rattle.std.specs.Prelude.{◌==◌, position, is_some}
use Rattle.plan_rules.proofs.PlacesLaws.{number_taken, number_free, ArePlaces-push}
use Rattle.plan_rules.proofs.places.Places.enter.Goals as goal

pub returns-then-is_some-clause-err : goal.returns-then-is_some-clause-err
returns-then-is_some-clause-err c =
    inr (number_taken c.args.kind c.args.self.now c.args.number (ap is_some (sym c.place.ensures) ∙ sym c.is_some.ensures ∙ c.if-is_some.true))

pub invariant_of-self-2 : goal.invariant_of-self-2
invariant_of-self-2 c =
    let free : is_some (position (λ n. n == c.args.number) c.self.inside.numbers) ≡ false = rw c.self.view_is (ap is_some (sym c.place.ensures) ∙ sym c.is_some.ensures ∙ c.if-is_some.false) in
    rw c.in_ok-push.ensures.ok (ArePlaces-push _ _ _ _ _ _ c.self.invariant c.len-place.ensures free c.in_ok-grow.ensures.kept c.put.ensures)

pub returns-clause-new : goal.returns-clause-new
returns-clause-new c = number_free c.args.kind c.args.self.now c.args.number (ap is_some (sym c.place.ensures) ∙ sym c.is_some.ensures ∙ c.if-is_some.false)
