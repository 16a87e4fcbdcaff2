use Rattle.std.proofs.Common.{◌∙◌, ◌≤◌, map, refl, ap, subst}
use Rattle.plan_settings.specs.declared.settings.Settings.{Settings}
use Rattle.plan_json.specs.Seen.{domain_view}
use Rattle.plan_session.specs.Course.{step_text}
use Rattle.plan_session.proofs.Begun.{failed, plays_by, prints_too, wanted}
use Rattle.plan_session.proofs.LegLaws.{is_ready, made_live, own_rules, own_seed}
use Rattle.plan_session.proofs.Stepped.{prints_named}
use Rattle.plan_session.proofs.legs.advance.Goals as goal

pub make_step-requires-clause-own : goal.make_step-requires-clause-own
make_step-requires-clause-own g c κs within =
    let live = c.requires.live in
    own_rules g.B.Book.meaning _ (domain_view c.args.domain.now) c.args.settings.now live.0 live.2 live.1 c.args.running.team.worker c.args.running.best live.3.course.at

pub make_step-requires-clause-seed : goal.make_step-requires-clause-seed
make_step-requires-clause-seed g c κs within =
    let live = c.requires.live in
    own_seed g.B.Book.meaning _ (domain_view c.args.domain.now) c.args.settings.now live.0 live.2 live.1 c.args.running.team.worker c.args.running.best live.3.course.at

pub make_step-requires-clause-ready : goal.make_step-requires-clause-ready
make_step-requires-clause-ready g c κs within =
    let live = c.requires.live in
    is_ready live.0 c.args.step live.1 c.args.running.core live.3.course.decides (subst (λ (s : Settings). c.args.step ≤ s.steps) live.2.settings_are c.requires.within)

pub returns-in_err-line-clause-prints : goal.returns-in_err-line-clause-prints
returns-in_err-line-clause-prints g c = λ posed leg by live.
    wanted c.from_residual.result _ (g.K.Sink.state c.args.out.now) c.from_residual.ensures.1

pub returns-in_err-print_line-clause-prints : goal.returns-in_err-print_line-clause-prints
returns-in_err-print_line-clause-prints g c = λ posed leg by live.
    let m = g.B.Book.meaning in
    let domain = domain_view c.args.domain.now in
    let makes = map (λ m. (goal.MoveMaker-dyn g (m.vtable, m.value)).made m.value) c.args.domain.now.makers.items in
    let plays = plays_by m makes domain c.args.settings.now posed by _ _ _ refl c.as_slice.ensures (ap (map _) c.deref.ensures.value) in
    let line = c.in_ok-line.ensures.line posed leg (subst (λ (s : Settings). c.args.step ≤ s.steps) by.settings_are c.requires.within) plays live.course in
    failed c.from_residual-in_err-print_line.result c.in_err-print_line.field-0.0 (step_text posed c.args.step leg)
    (g.K.Sink.state c.args.out.now) (g.K.Sink.state c.print_line.new.out) c.from_residual-in_err-print_line.ensures.1
    (prints_named _ posed c.args.step leg domain.classes c.as_slice-2.result.now c.in_ok-line.line (g.K.Sink.state c.args.out.now) (g.K.Sink.state c.print_line.new.out)
    by.classes (c.as_slice-2.ensures ∙ by.rules) line c.in_err-print_line.ensures.text)

pub returns-clause-prints : goal.returns-clause-prints
returns-clause-prints g c = λ posed leg by live.
    let m = g.B.Book.meaning in
    let domain = domain_view c.args.domain.now in
    let makes = map (λ m. (goal.MoveMaker-dyn g (m.vtable, m.value)).made m.value) c.args.domain.now.makers.items in
    let plays = plays_by m makes domain c.args.settings.now posed by _ _ _ refl c.as_slice.ensures (ap (map _) c.deref.ensures.value) in
    let line = c.in_ok-line.ensures.line posed leg (subst (λ (s : Settings). c.args.step ≤ s.steps) by.settings_are c.requires.within) plays live.course in
    prints_too _ _ (step_text posed c.args.step leg) (g.K.Sink.state c.args.out.now) (g.K.Sink.state c.print_line.new.out)
    (prints_named _ posed c.args.step leg domain.classes c.as_slice-2.result.now c.in_ok-line.line (g.K.Sink.state c.args.out.now) (g.K.Sink.state c.print_line.new.out)
    by.classes (c.as_slice-2.ensures ∙ by.rules) line c.in_ok-print_line.ensures.text)

pub returns-clause-made : goal.returns-clause-made
returns-clause-made g c = λ posed leg by live.
    let m = g.B.Book.meaning in
    let domain = domain_view c.args.domain.now in
    let makes = map (λ m. (goal.MoveMaker-dyn g (m.vtable, m.value)).made m.value) c.args.domain.now.makers.items in
    let plays = plays_by m makes domain c.args.settings.now posed by _ _ _ refl c.as_slice.ensures (ap (map _) c.deref.ensures.value) in
    let within = subst (λ (s : Settings). c.args.step ≤ s.steps) by.settings_are c.requires.within in
    made_live c.make_step.new.core c.make_step.new.team.worker c.make_step.new.best c.args.running.names posed c.args.step leg
    (c.in_ok-line.ensures.made posed leg within plays live.course) live.framed
