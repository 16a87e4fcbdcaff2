use Rattle.std.proofs.Common.{◌≡◌, ◌∙◌, Some, sym}
use Rattle.plan_rules.specs.Harder.{harder_key}
use Rattle.plan_rules.proofs.Accepted.{harder_there}
use Rattle.plan_rules.proofs.PlacesLaws.{number_of_found}
use Rattle.plan_rules.proofs.rules.Rules.harder.Goals as goal

pub returns-in-Some-clause-number : goal.returns-in-Some-clause-number
returns-in-Some-clause-number g c =
    let is : Some c.in-Some.number ≡ harder_key c.args.self.now.harder c.args.class = rw (← c.as_slice.ensures) c.in-Some.ensures in
    let there = harder_there _ _ _ _ _ _ c.args.self.now.accepted (sym is) in
    number_of_found (λ key. key.number) c.in-Some.number c.args.self.now.keys c.key.result c.key.ensures.found (c.key.ensures.there there) ∙ is
