use Rattle.std.proofs.Common.{◌≡◌, ◌∙◌, ◌≤◌, length, sym, ap, arith, below_more}
use Rattle.std.specs.Str.{bytes_eq}
use Rattle.std.proofs.lemmas.Option.{get_or_from_slice_get}
use Rattle.plan_facts.specs.declared.record.ClassDef.{ClassDef}
use Rattle.plan_changes.specs.Named.{no_def}
use Rattle.plan_changes.proofs.Firsts.{position_at, position_none}
use Rattle.plan_changes.proofs.named.class_named.Goals as goal

pub returns-then-is_named-clause-number : goal.returns-then-is_named-clause-number
returns-then-is_named-clause-number c =
    let name = c.args.name.now in
    let at = get_or_from_slice_get c.args.schema.now c.loop-n.n c.in-Some.class.now no_def (sym c.in-Some.ensures.class) in
    let here = ap (λ (class : ClassDef). bytes_eq name class.name) at ∙ sym c.is_named.ensures ∙ c.if-is_named.true in
    sym (position_at (λ (class : ClassDef). bytes_eq name class.name) c.args.schema.now c.loop-n.n no_def (omega arith) c.loop-n.invariant here)

pub loop-n-preserved : goal.loop-n-preserved
loop-n-preserved c =
    let name = c.args.name.now in
    let at = get_or_from_slice_get c.args.schema.now c.loop-n.n c.in-Some.class.now no_def (sym c.in-Some.ensures.class) in
    below_more _ _ c.loop-n.invariant (ap (λ (class : ClassDef). bytes_eq name class.name) at ∙ sym c.is_named.ensures ∙ c.if-is_named.false)

pub returns-clause-number : goal.returns-clause-number
returns-clause-number c =
    let past : length c.args.schema.now ≤ c.loop-n.n = omega (arith, c.classes-n-end.ensures.count) in
    sym (position_none (λ (class : ClassDef). bytes_eq c.args.name.now class.name) c.args.schema.now no_def (λ i h. c.loop-n.invariant i (omega arith)))
