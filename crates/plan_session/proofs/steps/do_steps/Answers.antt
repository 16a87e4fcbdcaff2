use Rattle.std.proofs.Common.{◌≡◌, ◌∙◌, ◌+◌, ◌<◌, ℕ, map, sym, ap, subst}
use Rattle.search_core.specs.Desk.{Terms}
use Rattle.plan_session.proofs.Stepped.{course_next, printed_step, printed_till, same_goes_on}
use Rattle.plan_session.proofs.steps.do_steps.Goals as goal

pub returns-in_err-do_step-clause-prints : goal.returns-in_err-do_step-clause-prints
returns-in_err-do_step-clause-prints g c =
    let kit = c.args.kit.now in
    let makes = map (λ m. (goal.MoveMaker-dyn g (m.vtable, m.value)).made m.value) kit.makers.now in
    printed_till g.B.Book.meaning kit.seed kit.selectors.now makes c.args.steps c.args.core.now c.args.team.now.worker c.args.best.now
    c.steps.step c.steps.core c.steps.team.worker c.steps.best
    c.from_residual.result c.in_err-do_step.field-0.0 c.args.report.now
    (g.K.Sink.state c.args.out.now) (g.K.Sink.state c.steps.out) (g.K.Sink.state c.do_step.new.out)
    c.from_residual.ensures.1 c.steps-test.true c.steps.invariant.course c.steps.invariant.printed c.in_err-do_step.ensures.prints

pub steps-preserved : goal.steps-preserved
steps-preserved g c =
    let kit = c.args.kit.now in
    let makes = map (λ m. (goal.MoveMaker-dyn g (m.vtable, m.value)).made m.value) kit.makers.now in
    let l = c.steps in
    let new = c.do_step.new in
    let done = c.in_ok-do_step.ensures in
    let all : c.args.steps ≡ l.core.settings.steps = c.requires.steps ∙ sym (ap (λ (t : Terms). t.settings.steps) l.invariant.terms) in
    record {
      same = same_goes_on c.args.team.now.worker l.team.worker new.team.worker l.invariant.same done.same;
      whole = done.whole;
      empty = done.emptied;
      terms = done.terms ∙ l.invariant.terms;
      quiet = done.quiet;
      ready = λ more. done.ready (subst (λ (n : ℕ). l.step + 1 < n) all more);
      course = course_next g.B.Book.meaning kit.seed kit.selectors.now makes c.args.steps c.args.core.now c.args.team.now.worker c.args.best.now
          l.step l.core l.team.worker l.best new.core new.team.worker new.best c.steps-test.true l.invariant.course done.went_on;
      printed = printed_step g.B.Book.meaning kit.seed kit.selectors.now makes c.args.steps c.args.core.now c.args.team.now.worker c.args.best.now
          l.step l.core l.team.worker l.best c.in_ok-do_step.field-0 c.args.report.now
          (g.K.Sink.state c.args.out.now) (g.K.Sink.state l.out) (g.K.Sink.state new.out)
          c.steps-test.true l.invariant.course l.invariant.printed done.prints;
    }
