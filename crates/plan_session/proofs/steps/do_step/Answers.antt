use Rattle.std.proofs.Common.{◌<◌, sym, subst}
use Rattle.search_core.specs.Desk.{Terms}
use Rattle.plan_session.specs.Course.{step_text}
use Rattle.plan_session.proofs.Stepped.{nothing_printed, on_ok, prints_line}
use Rattle.plan_session.proofs.steps.do_step.Goals as goal

pub returns-in_err-line-clause-prints : goal.returns-in_err-line-clause-prints
returns-in_err-line-clause-prints g c = λ posed leg within of plays course.
    nothing_printed c.from_residual.result (step_text posed c.args.step leg) (g.K.Sink.state c.args.out.now) c.from_residual.ensures.1

pub returns-in_err-pass-clause-prints : goal.returns-in_err-pass-clause-prints
returns-in_err-pass-clause-prints g c = λ posed leg within of plays course.
    nothing_printed c.from_residual-in_err-pass.result (step_text posed c.args.step leg) (g.K.Sink.state c.args.out.now) c.from_residual-in_err-pass.ensures.1

pub returns-clause-ready : goal.returns-clause-ready
returns-clause-ready g c =
    on_ok c.print_line.result _
    (λ more. c.in_ok-pass.ensures.ready (subst (λ (t : Terms). c.args.step < t.settings.steps) (sym c.in_ok-line.ensures.terms) more))

pub returns-clause-prints : goal.returns-clause-prints
returns-clause-prints g c = λ posed leg within of plays course.
    prints_line c.print_line.result posed c.args.step leg c.args.report.now c.in_ok-line.line (g.K.Sink.state c.args.out.now) (g.K.Sink.state c.print_line.new.out)
    of (c.in_ok-line.ensures.line posed leg within plays course) c.print_line.ensures.text

pub returns-clause-went_on : goal.returns-clause-went_on
returns-clause-went_on g c =
    on_ok c.print_line.result _
    (λ posed leg within plays course. c.in_ok-pass.ensures.goes_on posed _ c.make_step.new.team.worker c.make_step.new.best within (c.in_ok-line.ensures.made posed leg within plays course))
