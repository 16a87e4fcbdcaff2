use Rattle.std.proofs.Common.{List, map, subst}
use Rattle.live_lines.specs.Taking.{taken_at}
use Rattle.plan_json.specs.Seen.{domain_view}
use Rattle.plan_session.specs.Course.{gone_on, step_text}
use Rattle.plan_session.specs.Live.{next_text, text_behind}
use Rattle.plan_session.specs.Printing.{Prints}
use Rattle.plan_session.specs.Replayed.{feed_of}
use Rattle.plan_session.proofs.Begun.{failed_first}
use Rattle.plan_session.proofs.Live.{next_parts}
use Rattle.plan_session.proofs.Printed.{if_ok_map, prints_more}
use Rattle.plan_session.proofs.legs.go_on.Goals as goal

pub cross-requires-clause-made : goal.cross-requires-clause-made
cross-requires-clause-made g c κs within =
    let makes = map (λ m. (goal.MoveMaker-dyn g (m.vtable, m.value)).made m.value) c.args.domain.now.makers.items in
    let live = c.requires.live in
    (makes, live.0, gone_on live.0 c.args.step live.1, live.2, c.in_ok-running.ensures.made live.0 live.1 live.2 live.3)

pub returns-in_err-running-clause-prints : goal.returns-in_err-running-clause-prints
returns-in_err-running-clause-prints g c = λ posed leg by live.
    let feed = feed_of (domain_view c.args.domain.now) in
    let lines = taken_at c.args.step c.args.posts.now in
    failed_first c.from_residual.result c.in_err-running.field-0.0 (step_text posed c.args.step leg)
    (text_behind feed posed c.args.step lines (gone_on posed c.args.step leg)) (next_text feed posed c.args.step lines leg)
    (g.K.Sink.state c.args.out.now) (g.K.Sink.state c.advance.new.out) (next_parts feed posed c.args.step lines leg) c.from_residual.ensures.1
    (c.in_err-running.ensures.prints posed leg by live)

pub returns-clause-prints : goal.returns-clause-prints
returns-clause-prints g c = λ posed leg by live.
    let makes = map (λ m. (goal.MoveMaker-dyn g (m.vtable, m.value)).made m.value) c.args.domain.now.makers.items in
    let feed = feed_of (domain_view c.args.domain.now) in
    let lines = taken_at c.args.step c.args.posts.now in
    let printed = c.in_ok-running.ensures.prints posed leg by live in
    subst (λ (text : List _). Prints c.cross.result text (g.K.Sink.state c.args.out.now) (g.K.Sink.state c.cross.new.out)) (next_parts feed posed c.args.step lines leg)
    (prints_more c.cross.result (step_text posed c.args.step leg) (text_behind feed posed c.args.step lines (gone_on posed c.args.step leg))
    (g.K.Sink.state c.args.out.now) (g.K.Sink.state c.advance.new.out) (g.K.Sink.state c.cross.new.out) printed.whole printed.later
    (c.cross.ensures.prints makes posed (gone_on posed c.args.step leg) by (c.in_ok-running.ensures.made posed leg by live)))

pub returns-clause-live : goal.returns-clause-live
returns-clause-live g c =
    let makes = map (λ m. (goal.MoveMaker-dyn g (m.vtable, m.value)).made m.value) c.args.domain.now.makers.items in
    if_ok_map c.cross.result c.cross.ensures.live
    (λ next lives posed leg by live.
    lives makes posed (gone_on posed c.args.step leg) by (c.in_ok-running.ensures.made posed leg by live))
