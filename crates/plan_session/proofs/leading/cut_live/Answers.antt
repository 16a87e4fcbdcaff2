use Rattle.std.proofs.Common.{◌≡◌, ◌∙◌, ◌∷◌, [], List, Err, All, length, suc, sym, ap, subst, arith}
use Rattle.std.proofs.lemmas.List.{length-append}
use Rattle.live_lines.specs.Taking.{Taken, taken_at}
use Rattle.live_posts.specs.Cuts.{Take, take_at, taken_by}
use Rattle.plan_changes.specs.declared.line.Post.{Post}
use Rattle.plan_json.specs.Seen.{domain_view}
use Rattle.plan_ports.specs.Outside.{Wrote, WroteFront}
use Rattle.plan_session.specs.Live.{IsLive, leg_behind, text_behind}
use Rattle.plan_session.specs.LiveRuns.{AgreesWith, HasNoStop}
use Rattle.plan_session.specs.Replayed.{feed_of}
use Rattle.plan_session.specs.declared.live_fault.LiveFault.TheVariants.{Stopped, Write}
use Rattle.plan_session.proofs.LiveCuts.{IsLine, no_stop_more, takes_at}
use Rattle.plan_session.proofs.LiveFronts.{front_none, no_stop_printing, on_err_some, same_fault, write_printing}
use Rattle.plan_session.proofs.LiveLead.{for_all_cuts, for_cuts_before}
use Rattle.plan_session.proofs.leading.cut_live.Goals as goal

pub cut_lines-requires-clause-room : goal.cut_lines-requires-clause-room
cut_lines-requires-clause-room g c = omega (arith, c.requires.room, c.requires.cuts)

pub returns-in_err-posts-clause-stopped : goal.returns-in_err-posts-clause-stopped
returns-in_err-posts-clause-stopped g c = λ cause of.
    c.in_err-posts.ensures.stopped cause (ap Err (same_fault c.from_residual.result c.in_err-posts.field-0.0 (Stopped cause) c.from_residual.ensures.1 of))

pub returns-in_err-posts-clause-failed : goal.returns-in_err-posts-clause-failed
returns-in_err-posts-clause-failed g c = λ of.
    absurd (c.in_err-posts.ensures.unwritten (ap Err (same_fault c.from_residual.result c.in_err-posts.field-0.0 Write c.from_residual.ensures.1 of)))

pub returns-in_err-posts-clause-cut : goal.returns-in_err-posts-clause-cut
returns-in_err-posts-clause-cut g c = (c.in_err-posts.ensures.took.0, c.in_err-posts.ensures.took.1)

pub returns-in_err-posts-clause-broken : goal.returns-in_err-posts-clause-broken
returns-in_err-posts-clause-broken g c =
    let took = c.in_err-posts.ensures.took in
    on_err_some c.from_residual.result
    (for_cuts_before c.args.boundary (taken_by c.args.cutter.now) (taken_by c.cut_lines.new.cutter) (take_at c.args.boundary took.0) took.1 c.requires.cuts c.requires.no_stop
    (λ takes agrees makers posed leg by made. front_none _ (g.K.Sink.state c.args.out.now)))

pub returns-in_err-next-clause-cut : goal.returns-in_err-next-clause-cut
returns-in_err-next-clause-cut g c = (c.in_ok-posts.ensures.took.0, c.in_ok-posts.ensures.took.1)

pub returns-in_err-next-clause-stopped : goal.returns-in_err-next-clause-stopped
returns-in_err-next-clause-stopped g c = λ cause of.
    absurd (no_stop_printing c.in_err-next.field-0.0 cause (same_fault c.from_residual-in_err-next.result _ (Stopped cause) c.from_residual-in_err-next.ensures.1 of))

pub returns-in_err-next-clause-failed : goal.returns-in_err-next-clause-failed
returns-in_err-next-clause-failed g c = λ of.
    let made = c.requires.made in
    let is = write_printing c.in_err-next.field-0.0 (same_fault c.from_residual-in_err-next.result _ Write c.from_residual-in_err-next.ensures.1 of) in
    (c.in_err-next.ensures.prints made.0 made.1 made.2 made.3 made.4).failed (ap Err is)

pub returns-in_err-next-clause-later : goal.returns-in_err-next-clause-later
returns-in_err-next-clause-later g c =
    let made = c.requires.made in
    (c.in_err-next.ensures.prints made.0 made.1 made.2 made.3 made.4).later

pub returns-clause-cut : goal.returns-clause-cut
returns-clause-cut g c = (c.in_ok-posts.ensures.took.0, c.in_ok-posts.ensures.took.1)

pub returns-clause-later : goal.returns-clause-later
returns-clause-later g c =
    let made = c.requires.made in
    (c.in_ok-next.ensures.prints made.0 made.1 made.2 made.3 made.4).later

pub returns-clause-no_stop : goal.returns-clause-no_stop
returns-clause-no_stop g c =
    let took = c.in_ok-posts.ensures.took in
    subst HasNoStop (sym took.1)
    (no_stop_more (taken_by c.args.cutter.now) c.args.boundary took.0 c.requires.no_stop (subst (All IsLine) took.2 c.in_ok-posts.ensures.lines))

pub returns-in_err-next-clause-broken : goal.returns-in_err-next-clause-broken
returns-in_err-next-clause-broken g c =
    let took = c.in_ok-posts.ensures.took in
    let old = taken_by c.args.cutter.now in
    let k = c.args.boundary in
    let feed = feed_of (domain_view c.args.domain.now) in
    let quiet = subst HasNoStop (sym took.1) (no_stop_more old k took.0 c.requires.no_stop (subst (All IsLine) took.2 c.in_ok-posts.ensures.lines)) in
    let more = ap (λ (cuts : List (Take Post)). length cuts) took.1 in
    on_err_some c.from_residual-in_err-next.result
    (for_all_cuts k (taken_by c.cut_lines.new.cutter) (omega (arith, c.requires.cuts, more, length-append old (take_at k took.0 ∷ []))) quiet
    (λ takes agrees makers posed leg by made.
    let lines : taken_at k c.as_slice.result.now ≡ takes k =
    ap (taken_at k) (c.as_slice.ensures ∙ took.2) ∙ sym (takes_at takes old k took.0 c.requires.cuts (subst (AgreesWith takes) took.1 agrees)) in
    subst (λ (those : List Taken). WroteFront (text_behind feed posed k those leg) (g.K.Sink.state c.args.out.now) (g.K.Sink.state c.cross.new.out)) lines
    (c.in_err-next.ensures.prints makers posed leg by made).front))

pub returns-clause-printed : goal.returns-clause-printed
returns-clause-printed g c = λ takes agrees makers posed leg by made.
    let took = c.in_ok-posts.ensures.took in
    let old = taken_by c.args.cutter.now in
    let k = c.args.boundary in
    let feed = feed_of (domain_view c.args.domain.now) in
    let agreed = subst (AgreesWith takes) took.1 agrees in
    let lines : taken_at k c.as_slice.result.now ≡ takes k =
    ap (taken_at k) (c.as_slice.ensures ∙ took.2) ∙ sym (takes_at takes old k took.0 c.requires.cuts agreed) in
    subst (λ (those : List Taken). Wrote (text_behind feed posed k those leg) (g.K.Sink.state c.args.out.now) (g.K.Sink.state c.cross.new.out)) lines
    (c.in_ok-next.ensures.prints makers posed leg by made).whole

pub returns-clause-live : goal.returns-clause-live
returns-clause-live g c = λ takes agrees makers posed leg by made.
    let took = c.in_ok-posts.ensures.took in
    let old = taken_by c.args.cutter.now in
    let k = c.args.boundary in
    let feed = feed_of (domain_view c.args.domain.now) in
    let next = c.in_ok-next.next in
    let agreed = subst (AgreesWith takes) took.1 agrees in
    let lines : taken_at k c.as_slice.result.now ≡ takes k =
    ap (taken_at k) (c.as_slice.ensures ∙ took.2) ∙ sym (takes_at takes old k took.0 c.requires.cuts agreed) in
    subst (λ (those : List Taken). IsLive next.core next.team.worker next.best next.names posed (suc k) (leg_behind feed posed k those leg)) lines
    (c.in_ok-next.ensures.live makers posed leg by made)
