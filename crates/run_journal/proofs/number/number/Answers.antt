use Rattle.std.proofs.Common.{◌≡◌, ◌==◌, true, not, ◌||◌, ◌∷◌, length, ne_eqb, refl, sym, ◌∙◌, rules}
use Rattle.std.proofs.lemmas.Bool.{not-false}
use Rattle.run_journal.proofs.Digits.{number-some, number-none}
use Rattle.run_journal.proofs.number.number.Goals as goal
use Rattle.run_journal.proofs.number.number.Goals.{then-first-eq48, else-first-eq48}

pub returns-clause-some : goal.returns-clause-some
returns-clause-some c =
    let word : c.args.word.now ≡ c.in_ok-first.first.now ∷ c.in_ok-first.rest.now = search rules in
    let alone : (not (c.in_ok-first.first.now == 48) || length c.in_ok-first.rest.now == 0) ≡ true =
    elim c.if-first-eq48.branch [
      | then-first-eq48 w ↦ rw w.if-first-eq48.true (sym w.is_empty.ensures ∙ not-false w.is_empty.result (sym w.value-is ∙ c.if-not-is_empty.false))
      | else-first-eq48 w ↦ rw (ne_eqb _ _ w.if-first-eq48.false) refl
    ] in
    rw (c.ok.ensures.value, word) (number-some _ _ c.parse.result c.if-first-eq43.false alone (rw word at c.parse.ensures.value.0))

pub returns-clause-none : goal.returns-clause-none
returns-clause-none c =
    let word : c.args.word.now ≡ c.in_ok-first.first.now ∷ c.in_ok-first.rest.now = search rules in
    rw (c.ok.ensures.value, word) (number-none _ _ c.parse.result c.if-first-eq43.false (rw word at c.parse.ensures.value.0))
