use Rattle.std.proofs.Common.{◌∙◌, ◌==◌, ap}
use Rattle.std.specs.Prelude.{is_some}
use Rattle.plan_rules.proofs.Positions.{is_some-position}
use Rattle.plan_rules.proofs.missing.is_handed_in.Goals as goal

pub returns-in-Test : goal.returns-in-Test
returns-in-Test c = rw c.in-Test.is (c.is_some.ensures ∙ ap is_some c.place.ensures ∙ is_some-position (λ n. n == c.args.named.number) c.args.numbers.now.tests)

pub returns-in-Key : goal.returns-in-Key
returns-in-Key c =
    rw c.in-Key.is (c.is_some-in-Key.ensures ∙ ap is_some c.place-in-Key.ensures ∙ is_some-position (λ n. n == c.args.named.number) c.args.numbers.now.keys)

pub returns-in-Weigh : goal.returns-in-Weigh
returns-in-Weigh c =
    rw c.in-Weigh.is (c.is_some-in-Weigh.ensures ∙ ap is_some c.place-in-Weigh.ensures ∙ is_some-position (λ n. n == c.args.named.number) c.args.numbers.now.weighs)
