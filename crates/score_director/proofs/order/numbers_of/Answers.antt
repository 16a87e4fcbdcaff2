use Rattle.std.proofs.Common.{rules, ◌∙◌, ◌∷◌, [], SFits, length, take, w64}
use Rattle.std.proofs.lemmas.Int.{to_z-of_z}
use Rattle.score_director.proofs.Ordered.{numbers_of_row}
use Rattle.score_director.proofs.order.numbers_of.Goals as goal

pub returns : goal.returns
returns c = λ few.
    let row = c.args.row.now in
    let fits : SFits w64 c.number_at.result = search rules in
    let fits-2 : SFits w64 c.number_at-2.result = search rules in
    let fits-3 : SFits w64 c.number_at-3.result = search rules in
    let fits-4 : SFits w64 c.number_at-4.result = search rules in
    let first = to_z-of_z w64 c.number_at.result fits ∙ c.number_at.ensures in
    let second = to_z-of_z w64 c.number_at-2.result fits-2 ∙ c.number_at-2.ensures in
    let third = to_z-of_z w64 c.number_at-3.result fits-3 ∙ c.number_at-3.ensures in
    let fourth = to_z-of_z w64 c.number_at-4.result fits-4 ∙ c.number_at-4.ensures in
    (λ i. take (length row) (first i ∷ second i ∷ third i ∷ fourth i ∷ [])) ∙ numbers_of_row row few
