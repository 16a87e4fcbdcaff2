use Rattle.std.proofs.Common.{◌≡◌, ◌∙◌, ◌++◌, ℕ, List, [], refl, ap}
use Rattle.score_director.specs.View.{score_seen}
use Rattle.plan_json.specs.Seen.{domain_view}
use Rattle.plan_search.specs.Quiet.{leg_after, lines_after}
use Rattle.plan_search.specs.RunLines.{no_feed, opening_lines, text_of}
use Rattle.plan_session.specs.Begun.{opening_of, run_line_of}
use Rattle.plan_session.proofs.Begun.{begins, failed_first, failed_then, opening_is, prints_then, run_line_first, wanted_then}
use Rattle.plan_session.proofs.searching.begin.Goals as goal

pub returns-in_err-print_run-clause-prints : goal.returns-in_err-print_run-clause-prints
returns-in_err-print_run-clause-prints g c = λ makers posed by origin.
    let domain = domain_view c.args.domain.now in
    failed_first c.from_residual.result c.in_err-print_run.field-0.0 (run_line_of domain) (text_of posed (opening_lines no_feed posed (leg_after posed 0)))
    (text_of posed (lines_after posed 0)) (g.K.Sink.state c.args.out.now) (g.K.Sink.state c.print_run.new.out)
    (run_line_first g.B.Book.meaning makers domain c.args.settings.now posed by domain.classes domain.rules domain.name refl refl refl)
    c.from_residual.ensures.1 c.in_err-print_run.ensures.prints

pub returns-in_err-director-clause-prints : goal.returns-in_err-director-clause-prints
returns-in_err-director-clause-prints g c = λ makers posed by origin.
    let domain = domain_view c.args.domain.now in
    wanted_then c.in_ok-print_run.field-0 c.from_residual-in_err-director.result (run_line_of domain) (text_of posed (opening_lines no_feed posed (leg_after posed 0)))
    (text_of posed (lines_after posed 0)) (g.K.Sink.state c.args.out.now) (g.K.Sink.state c.print_run.new.out)
    (run_line_first g.B.Book.meaning makers domain c.args.settings.now posed by domain.classes domain.rules domain.name refl refl refl)
    c.in_ok-print_run.ensures.prints c.from_residual-in_err-director.ensures.1

pub returns-in_err-print_opening-clause-prints : goal.returns-in_err-print_opening-clause-prints
returns-in_err-print_opening-clause-prints g c = λ makers posed by origin.
    let m = g.B.Book.meaning in
    let domain = domain_view c.args.domain.now in
    let done = c.in_ok-director in
    let whole : run_line_of domain ++ opening_of domain 0 [] done.course c.score.result ≡ text_of posed (lines_after posed 0) =
    ap (λ (text : List ℕ). run_line_of domain ++ text)
    (opening_is m makers domain c.args.settings.now posed by domain.classes domain.rules c.args.plan c.args.weights done.course done.director.plan c.score.result
    refl refl origin done.ensures.course (c.score.ensures ∙ ap (score_seen m) done.ensures.rest))
    ∙ run_line_first m makers domain c.args.settings.now posed by domain.classes domain.rules domain.name refl refl refl in
    failed_then c.in_ok-print_run.field-0 c.from_residual-in_err-print_opening.result c.in_err-print_opening.field-0.0 (run_line_of domain) (opening_of domain 0 [] done.course c.score.result)
    (text_of posed (lines_after posed 0)) (g.K.Sink.state c.args.out.now) (g.K.Sink.state c.print_run.new.out) (g.K.Sink.state c.print_opening.new.out)
    whole c.from_residual-in_err-print_opening.ensures.1 c.in_ok-print_run.ensures.prints c.in_err-print_opening.ensures.prints

pub returns-clause-prints : goal.returns-clause-prints
returns-clause-prints g c = λ makers posed by origin.
    let m = g.B.Book.meaning in
    let domain = domain_view c.args.domain.now in
    let done = c.in_ok-director in
    let whole : run_line_of domain ++ opening_of domain 0 [] done.course c.score.result ≡ text_of posed (lines_after posed 0) =
    ap (λ (text : List ℕ). run_line_of domain ++ text)
    (opening_is m makers domain c.args.settings.now posed by domain.classes domain.rules c.args.plan c.args.weights done.course done.director.plan c.score.result
    refl refl origin done.ensures.course (c.score.ensures ∙ ap (score_seen m) done.ensures.rest))
    ∙ run_line_first m makers domain c.args.settings.now posed by domain.classes domain.rules domain.name refl refl refl in
    prints_then c.in_ok-print_run.field-0 c.in_ok-print_opening.field-0 _ (run_line_of domain) (opening_of domain 0 [] done.course c.score.result)
    (text_of posed (lines_after posed 0)) (g.K.Sink.state c.args.out.now) (g.K.Sink.state c.print_run.new.out) (g.K.Sink.state c.print_opening.new.out)
    whole c.in_ok-print_run.ensures.prints c.in_ok-print_opening.ensures.prints

pub returns-clause-begun : goal.returns-clause-begun
returns-clause-begun g c = λ makers posed by origin.
    let done = c.in_ok-director in
    begins g.B.Book.meaning makers (domain_view c.args.domain.now) c.args.settings.now posed by c.args.plan c.args.weights c.args.asked done.course done.director done.core
    (score_seen g.B.Book.meaning done.director) origin done.ensures.course done.ensures.rest refl done.ensures.core
