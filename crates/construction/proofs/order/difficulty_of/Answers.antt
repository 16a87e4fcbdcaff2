use Rattle.std.proofs.Common.{SFits, rules, ◌∙◌, ap, sym, w64}
use Rattle.std.proofs.lemmas.Int.{to_z-of_z}
use Rattle.construction.proofs.Ranks.{difficulty-gone, difficulty-is, difficulty-none}
use Rattle.construction.proofs.order.difficulty_of.Goals as goal

pub returns-in_default-clause-value : goal.returns-in_default-clause-value
returns-in_default-clause-value g c = difficulty-none _ _ _ _ (sym c.in_default.ensures.number)

pub returns-in_default-2-clause-value : goal.returns-in_default-2-clause-value
returns-in_default-2-clause-value g c = difficulty-gone _ _ _ _ (sym c.in_ok-rec.ensures.fact ∙ c.in_default-2.is)

pub returns-clause-value : goal.returns-clause-value
returns-clause-value g c =
    let fits : SFits w64 c.call.result = search rules in
    to_z-of_z w64 c.call.result fits ∙ c.call.ensures.value
    ∙ ap (g.B.Book.meaning.key_of c.in-Some.key.now.number) (c.in_ok-push.ensures.ok ∙ search rules)
    ∙ difficulty-is _ _ _ _ c.in-Some.key.now.number c.in-Some-2.rec (sym c.in-Some.ensures.number) (sym c.in_ok-rec.ensures.fact ∙ c.in-Some-2.is)
