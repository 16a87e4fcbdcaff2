use Rattle.std.proofs.Common.{◌∙◌, ◌+◌, None, Some, cond, length, take, drop, sym, ap, arith}
use Rattle.std.specs.Option.{option_or}
use Rattle.std.proofs.lemmas.List.{length-take-le}
use Rattle.std.proofs.lemmas.Option.{get_or_from_slice_get}
use Rattle.plan_facts.specs.First.{first_fault}
use Rattle.plan_facts.proofs.FirstLaws.{first_fault-from}
use Rattle.plan_changes.specs.Refused.{width_fault}
use Rattle.plan_changes.specs.declared.fault.ChangeFault.TheVariants.{RangeProduct}
use Rattle.plan_changes.proofs.refused.check_width.Goals as goal

pub returns-then-is_wide : goal.returns-then-is_wide
returns-then-is_wide c =
    let xs = c.args.schema.now in
    let n = c.loop-n.n in
    let fault = width_fault c.args.plan.now c.args.class in
    let at = first_fault-from fault xs n c.in-Some.def.now (omega arith) (sym (get_or_from_slice_get xs n c.in-Some.def.now c.in-Some.def.now (sym c.in-Some.ensures.class))) in
    let wide = sym c.is_wide.ensures ∙ c.if-is_wide.true in
    sym (c.loop-n.invariant ∙ at ∙ ap (λ b. option_or (cond b (Some (RangeProduct (length (take n xs)))) None) (first_fault fault (take (n + 1) xs) (drop (n + 1) xs))) wide ∙ ap (λ m. Some (RangeProduct m)) (length-take-le n xs (omega arith)))

pub loop-n-preserved : goal.loop-n-preserved
loop-n-preserved c =
    let xs = c.args.schema.now in
    let n = c.loop-n.n in
    let fault = width_fault c.args.plan.now c.args.class in
    let at = first_fault-from fault xs n c.in-Some.def.now (omega arith) (sym (get_or_from_slice_get xs n c.in-Some.def.now c.in-Some.def.now (sym c.in-Some.ensures.class))) in
    let narrow = sym c.is_wide.ensures ∙ c.if-is_wide.false in
    c.loop-n.invariant ∙ at ∙ ap (λ b. option_or (cond b (Some (RangeProduct (length (take n xs)))) None) (first_fault fault (take (n + 1) xs) (drop (n + 1) xs))) narrow
