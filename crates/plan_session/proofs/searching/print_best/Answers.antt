use Rattle.std.proofs.Common.{subst}
use Rattle.plan_facts.specs.Plan.{records_of}
use Rattle.plan_rules.proofs.Accepted.{few_rules}
use Rattle.plan_json.specs.Seen.{domain_view}
use Rattle.plan_session.specs.Printing.{Prints}
use Rattle.plan_session.proofs.Begun.{best_written, wanted}
use Rattle.plan_session.proofs.Whole.{few_matches}
use Rattle.plan_session.proofs.searching.print_best.Goals as goal

pub write_best-requires : goal.write_best-requires
write_best-requires g c =
    few_matches g.B.Book.meaning (records_of c.args.plan.now) c.args.domain.now.rules.defs c.args.weights.now _ 32
    c.in_ok-totals.ensures.matches (few_rules _ _ _ _ c.args.domain.now.rules.accepted)

pub returns-in_err-totals : goal.returns-in_err-totals
returns-in_err-totals g c = wanted c.from_residual.result _ (g.K.Sink.state c.args.out.now) c.from_residual.ensures.1

pub returns-in_err-write_best : goal.returns-in_err-write_best
returns-in_err-write_best g c =
    wanted c.from_residual-in_err-write_best.result _ (g.K.Sink.state c.args.out.now) c.from_residual-in_err-write_best.ensures.1

pub returns : goal.returns
returns g c =
    subst (λ text. Prints c.print.result text (g.K.Sink.state c.args.out.now) (g.K.Sink.state c.print.new.out))
    (best_written g.B.Book.meaning (domain_view c.args.domain.now) c.args.plan.now c.args.weights.now c.as_slice.result.now c.in_ok-totals.totals.score
    c.in_ok-totals.totals.matches c.args.buffer.now.items c.write_best.new.out.items c.as_slice.ensures
    c.in_ok-totals.ensures.score c.in_ok-totals.ensures.matches c.requires.empty c.in_ok-write_best.ensures)
    c.print.ensures.text
