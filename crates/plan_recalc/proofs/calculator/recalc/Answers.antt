use Rattle.plan_rules.specs.Range.{sizes_of}
use Rattle.plan_rules.proofs.Lengths.{few_rows_in_range}
use Rattle.plan_recalc.proofs.calculator.recalc.Goals as goal

pub all_rows-requires-clause-few : goal.all_rows-requires-clause-few
all_rows-requires-clause-few g c κs within =
    let rules = c.args.rules.now in
    few_rows_in_range (sizes_of c.args.plan.now) rules.defs c.args.weights.now rules.caps c.requires.1.range
