use Rattle.std.proofs.Common.{◌≡◌, ◌∙◌, ◌++◌, ℕ, List, map, refl, sym, ap, subst, arith}
use Rattle.plan_rules.specs.Range.{MayJudge, sizes_of}
use Rattle.score_director.specs.View.{DirectorView}
use Rattle.plan_json.specs.Accepted.{problem_view}
use Rattle.plan_json.specs.Seen.{domain_view}
use Rattle.plan_search.specs.Quiet.{lines_after}
use Rattle.plan_search.specs.RunLines.{solve_text, text_of}
use Rattle.plan_session.specs.Begun.{best_text}
use Rattle.plan_session.specs.Course.{HasPrinted}
use Rattle.plan_session.specs.Posed.{posed_in}
use Rattle.plan_session.specs.Printing.{Prints}
use Rattle.plan_session.proofs.Begun.{failed_first, rest_of_run, run_text, wanted}
use Rattle.plan_session.proofs.Kept.{best_text_is}
use Rattle.plan_session.proofs.Printed.{prints_more}
use Rattle.plan_session.proofs.Posing.{is_origin, is_posed}
use Rattle.plan_session.proofs.searching.solve.Goals as goal

pub returns-in_err-under : goal.returns-in_err-under
returns-in_err-under g c = wanted c.from_residual.result _ (g.K.Sink.state c.args.out.now) c.from_residual.ensures.1

pub returns-in_err-director : goal.returns-in_err-director
returns-in_err-director g c =
    let makes = map (λ m. (goal.MoveMaker-dyn g (m.vtable, m.value)).made m.value) c.args.domain.now.makers.items in
    let domain = domain_view c.args.domain.now in
    let problem = problem_view c.args.problem in
    let posed = posed_in g.B.Book.meaning makes domain problem in
    let by = is_posed g.B.Book.meaning makes domain problem in
    let origin = is_origin g.B.Book.meaning makes domain problem in
    let rest = rest_of_run posed 0 (omega arith) in
    failed_first c.from_residual-in_err-director.result c.in_err-director.field-0.0 (text_of posed (lines_after posed 0)) rest.rest (solve_text posed)
    (g.K.Sink.state c.args.out.now) (g.K.Sink.state c.begin.new.out) rest.is c.from_residual-in_err-director.ensures.1
    (c.in_err-director.ensures.prints makes posed by origin)

pub search-requires-clause-judges : goal.search-requires-clause-judges
search-requires-clause-judges g c κs within =
    let makes = map (λ m. (goal.MoveMaker-dyn g (m.vtable, m.value)).made m.value) c.args.domain.now.makers.items in
    let domain = domain_view c.args.domain.now in
    let problem = problem_view c.args.problem in
    let begun = c.in_ok-director.ensures.begun makes (posed_in g.B.Book.meaning makes domain problem)
    (is_posed g.B.Book.meaning makes domain problem) (is_origin g.B.Book.meaning makes domain problem) in
    let rules = c.args.domain.now.rules in (
      c.requires.judges.0,
      subst (λ (weights : List ℕ). MayJudge rules.defs rules.caps weights (sizes_of c.in_ok-director.director.plan)) (sym (ap (λ d. d.weights) begun.stands))
          (subst (λ sizes. MayJudge rules.defs rules.caps c.args.problem.weights sizes) (sym c.in_ok-director.ensures.sizes) c.requires.judges.1),
    )

pub search-requires-clause-weights : goal.search-requires-clause-weights
search-requires-clause-weights g c κs within =
    let makes = map (λ m. (goal.MoveMaker-dyn g (m.vtable, m.value)).made m.value) c.args.domain.now.makers.items in
    let domain = domain_view c.args.domain.now in
    let problem = problem_view c.args.problem in
    let begun = c.in_ok-director.ensures.begun makes (posed_in g.B.Book.meaning makes domain problem)
    (is_posed g.B.Book.meaning makes domain problem) (is_origin g.B.Book.meaning makes domain problem) in
    ap (λ (d : DirectorView). d.weights) begun.stands ∙ sym (c.as_slice.ensures ∙ c.in_ok-under.ensures)

pub search-requires-clause-begun : goal.search-requires-clause-begun
search-requires-clause-begun g c κs within =
    let makes = map (λ m. (goal.MoveMaker-dyn g (m.vtable, m.value)).made m.value) c.args.domain.now.makers.items in
    let domain = domain_view c.args.domain.now in
    let problem = problem_view c.args.problem in
    let posed = posed_in g.B.Book.meaning makes domain problem in
    let by = is_posed g.B.Book.meaning makes domain problem in
    (posed, by, c.in_ok-director.ensures.begun makes posed by (is_origin g.B.Book.meaning makes domain problem))

pub returns-in_err-searched : goal.returns-in_err-searched
returns-in_err-searched g c =
    let makes = map (λ m. (goal.MoveMaker-dyn g (m.vtable, m.value)).made m.value) c.args.domain.now.makers.items in
    let domain = domain_view c.args.domain.now in
    let problem = problem_view c.args.problem in
    let posed = posed_in g.B.Book.meaning makes domain problem in
    let by = is_posed g.B.Book.meaning makes domain problem in
    let origin = is_origin g.B.Book.meaning makes domain problem in
    let steps = c.args.problem.settings.steps in
    let start = g.K.Sink.state c.args.out.now in
    let opened = c.in_ok-director.ensures.prints makes posed by origin in
    let printed : HasPrinted posed 0 start (g.K.Sink.state c.begin.new.out) = record { wrote = opened.whole; later = opened.later } in
    let rest = rest_of_run posed steps (omega arith) in
    failed_first c.from_residual-in_err-searched.result c.in_err-searched.field-0.0 (text_of posed (lines_after posed steps)) rest.rest (solve_text posed)
    start (g.K.Sink.state c.search.new.out) rest.is c.from_residual-in_err-searched.ensures.1
    (c.in_err-searched.ensures.prints posed start by (c.in_ok-director.ensures.begun makes posed by origin) printed)

pub returns : goal.returns
returns g c =
    let makes = map (λ m. (goal.MoveMaker-dyn g (m.vtable, m.value)).made m.value) c.args.domain.now.makers.items in
    let domain = domain_view c.args.domain.now in
    let problem = problem_view c.args.problem in
    let posed = posed_in g.B.Book.meaning makes domain problem in
    let by = is_posed g.B.Book.meaning makes domain problem in
    let origin = is_origin g.B.Book.meaning makes domain problem in
    let steps = c.args.problem.settings.steps in
    let start = g.K.Sink.state c.args.out.now in
    let opened = c.in_ok-director.ensures.prints makes posed by origin in
    let printed : HasPrinted posed 0 start (g.K.Sink.state c.begin.new.out) = record { wrote = opened.whole; later = opened.later } in
    let begun = c.in_ok-director.ensures.begun makes posed by origin in
    let stepped = c.in_ok-searched.ensures.prints posed start by begun printed in
    let front = text_of posed (lines_after posed steps) in
    let best = best_text g.B.Book.meaning domain c.in_ok-searched.searched.best c.as_slice-2.result.now in
    let whole : front ++ best ≡ solve_text posed =
    ap (λ (text : List ℕ). front ++ text)
    (best_text_is g.B.Book.meaning makes domain c.args.problem.settings posed by c.in_ok-searched.searched.best c.as_slice-2.result.now steps
    (c.in_ok-searched.ensures.searched posed by begun).best (c.as_slice-2.ensures ∙ c.in_ok-under.ensures))
    ∙ run_text posed steps refl in
    subst (λ (text : List ℕ). Prints c.print_best.result text start (g.K.Sink.state c.print_best.new.out)) whole
    (prints_more c.print_best.result front best start (g.K.Sink.state c.search.new.out) (g.K.Sink.state c.print_best.new.out)
    stepped.whole stepped.later c.print_best.ensures)
