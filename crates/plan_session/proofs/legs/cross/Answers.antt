use Rattle.std.proofs.Common.{◌≤◌, suc, [], sym, subst}
use Rattle.plan_settings.specs.declared.settings.Settings.{Settings}
use Rattle.live_lines.specs.Taking.{taken_at}
use Rattle.plan_json.specs.Seen.{domain_view}
use Rattle.plan_session.specs.Course.{BareLeg, best_in}
use Rattle.plan_session.specs.Live.{IsLive, opening_text, text_behind}
use Rattle.plan_session.specs.Replayed.{feed_of}
use Rattle.plan_session.proofs.Begun.{wanted}
use Rattle.plan_session.proofs.LegLaws.{no_lines, some_lines}
use Rattle.plan_session.proofs.Live.{begins_behind, nothing_behind, opens_behind, stays_behind}
use Rattle.plan_session.proofs.Printed.{if_ok_map, prints_as, prints_none}
use Rattle.plan_session.proofs.legs.cross.Goals as goal

pub returns-then-not-is_empty-clause-prints : goal.returns-then-not-is_empty-clause-prints
returns-then-not-is_empty-clause-prints g c = λ makers posed leg by live.
    let feed = feed_of (domain_view c.args.domain.now) in
    let lines = taken_at c.args.boundary c.args.posts.now in
    let some = some_lines c.args.boundary c.args.posts.now c.is_empty.result c.is_empty.ensures c.if-not-is_empty.true in
    prints_as c.begin_next.result (opening_text feed posed c.args.boundary lines (best_in posed leg)) (text_behind feed posed c.args.boundary lines leg)
    (g.K.Sink.state c.args.out.now) (g.K.Sink.state c.begin_next.new.out)
    (sym (opens_behind feed posed c.args.boundary lines leg some)) (c.begin_next.ensures.prints makers posed leg by live)

pub returns-then-not-is_empty-clause-live : goal.returns-then-not-is_empty-clause-live
returns-then-not-is_empty-clause-live g c =
    let feed = feed_of (domain_view c.args.domain.now) in
    let lines = taken_at c.args.boundary c.args.posts.now in
    let some = some_lines c.args.boundary c.args.posts.now c.is_empty.result c.is_empty.ensures c.if-not-is_empty.true in
    if_ok_map c.begin_next.result c.begin_next.ensures.live
    (λ next lives makers posed leg by live.
    subst (λ (l : BareLeg). IsLive next.core next.team.worker next.best next.names posed (suc c.args.boundary) l)
    (sym (begins_behind feed posed c.args.boundary lines leg some)) (lives makers posed leg by live))

pub returns-in_err-pass-clause-prints : goal.returns-in_err-pass-clause-prints
returns-in_err-pass-clause-prints g c = λ makers posed leg by live.
    wanted c.from_residual.result _ (g.K.Sink.state c.args.out.now) c.from_residual.ensures.1

pub returns-clause-prints : goal.returns-clause-prints
returns-clause-prints g c = λ makers posed leg by live.
    let feed = feed_of (domain_view c.args.domain.now) in
    let lines = taken_at c.args.boundary c.args.posts.now in
    let none = no_lines c.args.boundary c.args.posts.now c.is_empty.result c.is_empty.ensures c.if-not-is_empty.false in
    prints_as _ [] (text_behind feed posed c.args.boundary lines leg) (g.K.Sink.state c.args.out.now) (g.K.Sink.state c.args.out.now)
    (sym (nothing_behind feed posed c.args.boundary lines leg none)) (prints_none _ (g.K.Sink.state c.args.out.now))

pub returns-clause-live : goal.returns-clause-live
returns-clause-live g c = λ makers posed leg by live.
    let feed = feed_of (domain_view c.args.domain.now) in
    let lines = taken_at c.args.boundary c.args.posts.now in
    let running = c.args.running in
    let none = no_lines c.args.boundary c.args.posts.now c.is_empty.result c.is_empty.ensures c.if-not-is_empty.false in
    let within = subst (λ (s : Settings). c.args.boundary ≤ s.steps) by.settings_are c.requires.within in
    subst (λ (l : BareLeg). IsLive c.pass.new.core running.team.worker running.best running.names posed (suc c.args.boundary) l)
    (sym (stays_behind feed posed c.args.boundary lines leg none))
    (record { course = c.in_ok-pass.ensures.goes_on posed leg running.team.worker running.best within live.made; framed = live.framed })
