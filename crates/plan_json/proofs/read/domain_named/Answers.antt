use Rattle.std.proofs.Common.{◌∙◌, [], sym, ap, below_more}
use Rattle.std.specs.Str.{bytes_eq}
use Rattle.plan_json.proofs.Firsts.{position_at, position_none, get_or-at, length-map-lt, length-map-le}
use Rattle.plan_json.proofs.read.domain_named.Goals as goal

pub returns-then-is_named : goal.returns-then-is_named
returns-then-is_named g c =
    sym (position_at (bytes_eq c.args.name.now) _ c.loop-place.place [] (length-map-lt (λ d. d.name) c.args.domains.now c.loop-place.place c.loop-place-test.true) c.loop-place.invariant
    (ap (bytes_eq c.args.name.now) (get_or-at (λ d. d.name) c.args.domains.now c.loop-place.place c.index-domains-place.result [] c.loop-place-test.true c.index-domains-place.is) ∙ sym c.is_named.ensures ∙ c.if-is_named.true))

pub loop-place-preserved : goal.loop-place-preserved
loop-place-preserved g c =
    below_more _ _ c.loop-place.invariant
    (ap (bytes_eq c.args.name.now) (get_or-at (λ d. d.name) c.args.domains.now c.loop-place.place c.index-domains-place.result [] c.loop-place-test.true c.index-domains-place.is) ∙ sym c.is_named.ensures ∙ c.if-is_named.false)

pub returns : goal.returns
returns g c =
    sym (position_none (bytes_eq c.args.name.now) _ [] (λ i h. c.loop-place.invariant i (length-map-le (λ d. d.name) c.args.domains.now i c.loop-place.place h c.loop-place-test.false)))
