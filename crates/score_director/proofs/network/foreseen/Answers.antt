use Rattle.std.proofs.Common.{◌∙◌}
use Rattle.plan_rules.specs.Range.{sizes_of}
use Rattle.score_director.proofs.Led.{in_range}
use Rattle.score_director.proofs.network.foreseen.Goals as goal

pub score_from-requires-clause-totals : goal.score_from-requires-clause-totals
score_from-requires-clause-totals g c κs within =
    let rules = c.args.rules.now in
    let plan = c.args.plan.now in
    let from = c.requires.from in
    let range = in_range rules.schema rules.numbers rules.defs rules.harder rules.accepted rules.caps c.args.weights.now plan c.requires.judges.1 in
    c.deref.ensures.value ∙ c.in_ok-judge.ensures.foresees from.facts (sizes_of plan) from.stands from.turn range
