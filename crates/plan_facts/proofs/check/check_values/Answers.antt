use Rattle.std.proofs.Common.{◌∙◌, arith, rules}
use Rattle.plan_facts.proofs.ValueFaults.{bad_value, good_value, wrong_count, right_count}
use Rattle.plan_facts.proofs.check.check_values.Goals as goal

pub returns-then-not-is_value : goal.returns-then-not-is_value
returns-then-not-is_value g c =
    bad_value _ c.args.class c.args.id c.args.ranges.now c.args.values.now c.loop-place.place (omega arith) (omega arith) (search rules) c.loop-place.invariant

pub loop-place-preserved : goal.loop-place-preserved
loop-place-preserved g c =
    c.loop-place.invariant ∙ good_value _ c.args.class c.args.id c.args.ranges.now c.args.values.now c.loop-place.place (omega arith) (omega arith) (search rules)

pub returns-then-values-ranges : goal.returns-then-values-ranges
returns-then-values-ranges g c =
    wrong_count _ c.args.class c.args.id c.args.ranges.now c.args.values.now c.loop-place.place (omega arith) c.if-values-ranges.true c.loop-place.invariant

pub returns : goal.returns
returns g c =
    right_count _ c.args.class c.args.id c.args.ranges.now c.args.values.now c.loop-place.place (omega arith) c.if-values-ranges.false c.loop-place.invariant
