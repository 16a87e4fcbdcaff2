use Rattle.std.proofs.Common.{◌∙◌, ap, rules, SFits, w64}
use Rattle.std.proofs.lemmas.Int.{to_z-of_z}
use Rattle.plan_rules.proofs.PlacesLaws.{found_number}
use Rattle.plan_rules.proofs.rules.Rules.key_of.Goals as goal

pub returns-clause-value : goal.returns-clause-value
returns-clause-value g c =
    let fits : SFits w64 c.call.result = search rules in
    to_z-of_z w64 c.call.result fits ∙ c.call.ensures.value
    ∙ ap (λ n. g.B.Book.meaning.key_of n c.args.row.now) (found_number (λ key. key.number) c.args.number c.args.self.now.keys c.in-Some.key.now c.in-Some.ensures.found)
