use Rattle.std.proofs.Common.{◌∙◌, ap}
use Rattle.plan_rules.proofs.PlacesLaws.{found_number}
use Rattle.plan_rules.proofs.rules.Rules.test_of.Goals as goal

pub returns-clause-value : goal.returns-clause-value
returns-clause-value g c =
    c.call.ensures.value ∙ ap (λ n. g.B.Book.meaning.test_of n c.args.row.now) (found_number (λ test. test.number) c.args.number c.args.self.now.tests c.in-Some.test.now c.in-Some.ensures.found)
