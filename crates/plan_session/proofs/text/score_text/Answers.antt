use Rattle.plan_facts.specs.Plan.{records_of}
use Rattle.plan_rules.proofs.Accepted.{few_rules}
use Rattle.plan_session.proofs.Whole.{few_matches, score_written}
use Rattle.plan_session.proofs.text.score_text.Goals as goal

pub sums-requires : goal.sums-requires
sums-requires g c =
    few_matches g.B.Book.meaning (records_of c.args.problem.now.plan) c.args.domain.now.rules.defs c.as_slice.result.now _ 32 c.in_ok-totals.ensures.matches (few_rules _ _ _ _ c.args.domain.now.rules.accepted)

pub returns : goal.returns
returns g c =
    score_written _ c.as_slice-2.result.now c.as_slice.result.now c.in_ok-totals.totals.score c.in_ok-totals.totals.matches
    _ _ _ _ c.new-out.ensures.items c.in_ok-line.ensures c.in_ok-sums.ensures c.in_ok-line-2.ensures
    c.as_slice-2.ensures c.as_slice.ensures c.in_ok-totals.ensures.score c.in_ok-totals.ensures.matches
