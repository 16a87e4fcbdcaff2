use Rattle.std.proofs.Common.{List, ◌∷◌, subst}
use Rattle.live_lines.specs.Taking.{taken_at}
use Rattle.plan_json.specs.Seen.{domain_view}
use Rattle.plan_reports.specs.declared.line.Line.TheVariants as line
use Rattle.plan_search.specs.RunLines.{opening_lines, text_of}
use Rattle.plan_session.specs.Begun.{run_line_of}
use Rattle.plan_session.specs.Live.{leg_begun}
use Rattle.plan_session.specs.Printing.{Prints}
use Rattle.plan_session.specs.Replayed.{feed_of}
use Rattle.plan_session.proofs.Begun.{failed_first}
use Rattle.plan_session.proofs.LegLaws.{run_then_opening}
use Rattle.plan_session.proofs.Printed.{prints_more}
use Rattle.plan_session.proofs.replaying.begin_run.Goals as goal

pub returns-in_err-print_run-clause-prints : goal.returns-in_err-print_run-clause-prints
returns-in_err-print_run-clause-prints g c = λ makers posed by origin.
    let domain = domain_view c.args.domain.now in
    let feed = feed_of domain in
    let opening = opening_lines feed posed (leg_begun feed posed 0 (taken_at 0 c.args.posts.now) posed.origin) in
    let whole = text_of posed (line.Run posed.name ∷ opening) in
    let first_then = run_then_opening g.B.Book.meaning makers domain c.args.settings.now posed by opening in
    failed_first c.from_residual.result c.in_err-print_run.field-0.0 (run_line_of domain) (text_of posed opening) whole (g.K.Sink.state c.args.out.now) (g.K.Sink.state c.print_run.new.out) first_then
    c.from_residual.ensures.1 c.in_err-print_run.ensures.prints

pub returns-clause-prints : goal.returns-clause-prints
returns-clause-prints g c = λ makers posed by origin.
    let domain = domain_view c.args.domain.now in
    let feed = feed_of domain in
    let opening = opening_lines feed posed (leg_begun feed posed 0 (taken_at 0 c.args.posts.now) posed.origin) in
    let first_then = run_then_opening g.B.Book.meaning makers domain c.args.settings.now posed by opening in
    let printed = c.in_ok-print_run.ensures.prints in
    subst (λ (text : List _). Prints c.first_leg.result text (g.K.Sink.state c.args.out.now) (g.K.Sink.state c.first_leg.new.out)) first_then
    (prints_more c.first_leg.result (run_line_of domain) (text_of posed opening) (g.K.Sink.state c.args.out.now) (g.K.Sink.state c.print_run.new.out) (g.K.Sink.state c.first_leg.new.out)
    printed.whole printed.later (c.first_leg.ensures.prints makers posed by origin))
