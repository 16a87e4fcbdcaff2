use Rattle.std.proofs.Common.{◌≡◌, ◌∙◌, [], sym, ap, arith, below_more, get_or}
use Rattle.std.specs.Str.{bytes_eq}
use Rattle.std.proofs.lemmas.List.{get_or_default}
use Rattle.plan_changes.proofs.Firsts.{position_at, position_none}
use Rattle.plan_changes.proofs.named.rule_named.Goals as goal

pub returns-then-is_named-clause-number : goal.returns-then-is_named-clause-number
returns-then-is_named-clause-number c =
    let at : get_or c.args.names.now c.loop-place.place [] ≡ c.index-names-place.result = get_or_default c.args.names.now c.loop-place.place [] c.index-names-place.result c.loop-place-test.true ∙ sym c.index-names-place.is in
    let here = ap (bytes_eq c.args.name.now) at ∙ sym c.is_named.ensures ∙ c.if-is_named.true in
    sym (position_at (bytes_eq c.args.name.now) c.args.names.now c.loop-place.place [] c.loop-place-test.true c.loop-place.invariant here)

pub loop-place-preserved : goal.loop-place-preserved
loop-place-preserved c =
    let at : get_or c.args.names.now c.loop-place.place [] ≡ c.index-names-place.result = get_or_default c.args.names.now c.loop-place.place [] c.index-names-place.result c.loop-place-test.true ∙ sym c.index-names-place.is in
    below_more _ _ c.loop-place.invariant (ap (bytes_eq c.args.name.now) at ∙ sym c.is_named.ensures ∙ c.if-is_named.false)

pub returns-clause-number : goal.returns-clause-number
returns-clause-number c =
    sym (position_none (bytes_eq c.args.name.now) c.args.names.now [] (λ i h. c.loop-place.invariant i (omega arith)))
