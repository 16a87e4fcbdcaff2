use Rattle.std.proofs.Common.{◌∙◌, ap}
use Rattle.plan_rules.proofs.PlacesLaws.{cap_with-found, found_number}
use Rattle.plan_rules.proofs.rules.Rules.match_weight_of.Goals as goal

pub returns-clause-value : goal.returns-clause-value
returns-clause-value g c =
    c.call.ensures.value ∙ ap (λ n. g.B.Book.meaning.weight_of n c.args.row.now) (found_number (λ weigher. weigher.number) c.args.number c.args.self.now.weighs c.in-Some.weigher.now c.in-Some.ensures.found)

pub returns-clause-range : goal.returns-clause-range
returns-clause-range g c =
    rw (cap_with-found (λ weigher. weigher.number) (λ weigher. weigher.cap) c.args.number c.args.self.now.weighs, ← c.in-Some.ensures.found) c.call.ensures.range
