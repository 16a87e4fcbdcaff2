use Rattle.plan_facts.specs.Plan.{records_of}
use Rattle.plan_rules.specs.Range.{sizes_of}
use Rattle.plan_rules.proofs.Accepted.{few_rules}
use Rattle.plan_rules.proofs.Lengths.{few_rows_in_range}
use Rattle.plan_rules.proofs.Within.{plan_within}
use Rattle.indictments.proofs.Counted.{few_matches_all}
use Rattle.plan_session.proofs.Whole.{few_matches}
use Rattle.plan_session.proofs.Explained.{explained_is}
use Rattle.plan_session.proofs.explaining.explain_text.Goals as goal

pub write_explained-requires-clause-rules : goal.write_explained-requires-clause-rules
write_explained-requires-clause-rules g c =
    few_matches g.B.Book.meaning (records_of c.args.problem.now.plan) c.args.domain.now.rules.defs c.as_slice.result.now _ 32 c.in_ok-totals.ensures.matches (few_rules _ _ _ _ c.args.domain.now.rules.accepted)

pub write_explained-requires-clause-few : goal.write_explained-requires-clause-few
write_explained-requires-clause-few g c =
    let plan = c.args.problem.now.plan in
    let rules = c.args.domain.now.rules in
    few_matches_all g.B.Book.meaning (records_of plan) (sizes_of plan) rules.defs c.as_slice.result.now _ (plan_within plan)
    (few_rows_in_range (sizes_of plan) rules.defs c.args.problem.now.weights rules.caps c.requires.1.range) (few_rules _ _ _ _ rules.accepted) c.in_ok-totals.ensures.matches c.in_ok-totals.totals.small

pub returns : goal.returns
returns g c =
    explained_is _ c.as_slice-2.result.now c.as_slice.result.now c.in_ok-totals.totals.score c.in_ok-totals.totals.matches
    _ _ c.new-out.ensures.items c.in_ok-write_explained.ensures
    c.as_slice-2.ensures c.as_slice.ensures c.in_ok-totals.ensures.score c.in_ok-totals.ensures.matches
