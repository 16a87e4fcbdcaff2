use Rattle.std.proofs.Common.{sym, ◌∙◌}
use Rattle.plan_words.proofs.ValueLemmas.{are_names-map}
use Rattle.plan_words.proofs.values.are_names.Goals as goal

pub returns-then-are_filled : goal.returns-then-are_filled
returns-then-are_filled c =
    let filled = sym c.are_filled.ensures ∙ c.if-are_filled.true in
    rw (c.standard_inputs.ensures, are_names-map, filled)

pub returns-else-are_filled : goal.returns-else-are_filled
returns-else-are_filled c =
    let empty = sym c.are_filled.ensures ∙ c.if-are_filled.false in
    rw (c.if-are_filled.false, are_names-map, empty)
