use Rattle.plan_words.proofs.Utf8Lemmas.{text-some, text-none}
use Rattle.plan_words.proofs.line.utf8.Goals as goal

pub returns-clause-some : goal.returns-clause-some
returns-clause-some c = rw (c.ok.ensures.value, ← c.as_slice.ensures) (text-some _ c.from_utf8.result _ c.from_utf8.ensures.cases)

pub returns-clause-none : goal.returns-clause-none
returns-clause-none c = rw (c.ok.ensures.value, ← c.as_slice.ensures) (text-none _ c.from_utf8.result _ c.from_utf8.ensures.cases)
