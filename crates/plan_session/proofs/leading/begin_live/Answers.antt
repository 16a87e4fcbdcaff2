use Rattle.std.proofs.Common.{◌≡◌, ◌∙◌, ◌≤◌, ◌∷◌, ◌++◌, [], List, Err, All, length, refl, sym, ap, subst, arith}
use Rattle.std.proofs.lemmas.List.Elements.{All-nil}
use Rattle.feed_lines.specs.Limits.{most_lines}
use Rattle.live_lines.specs.Taking.{Taken, taken_at}
use Rattle.live_posts.specs.Cuts.{Take, take_at, taken_by}
use Rattle.plan_changes.specs.declared.line.Post.{Post}
use Rattle.plan_json.specs.Seen.{domain_view}
use Rattle.plan_ports.specs.Outside.{Wrote, WroteFront}
use Rattle.plan_session.specs.Fed.{bare}
use Rattle.plan_session.specs.Live.{IsLive, leg_begun, opening_text}
use Rattle.plan_session.specs.LiveRuns.{AgreesWith, HasNoStop}
use Rattle.plan_session.specs.Origins.{origin_state}
use Rattle.plan_session.specs.Replayed.{feed_of}
use Rattle.plan_session.specs.declared.live_fault.LiveFault.TheVariants.{Stopped, Write}
use Rattle.plan_session.specs.Posed.{posed_at}
use Rattle.plan_session.proofs.LiveCuts.{IsLine, no_stop_more, takes_at}
use Rattle.plan_session.proofs.LiveFronts.{front_none, no_stop_printing, on_err_some, same_fault, write_printing}
use Rattle.plan_session.proofs.LiveLead.{for_all_cuts, for_cuts_before, is_posed_at}
use Rattle.plan_session.proofs.leading.begin_live.Goals as goal

pub cut_lines-requires-clause-room : goal.cut_lines-requires-clause-room
cut_lines-requires-clause-room g c =
    let none = ap length c.requires.fresh in
    omega (arith, none, c.requires.room)

pub first_leg-requires-clause-few : goal.first_leg-requires-clause-few
first_leg-requires-clause-few g c κs within = subst (λ (posts : List Post). length posts ≤ most_lines) (sym c.as_slice.ensures) c.in_ok-posts.ensures.few

pub first_leg-requires-clause-lines : goal.first_leg-requires-clause-lines
first_leg-requires-clause-lines g c κs within = subst (All IsLine) (sym c.as_slice.ensures) c.in_ok-posts.ensures.lines

-- the first cut
cut_first : (old new : List (Take Post)) (posts : List Post) → old ≡ [] → new ≡ old ++ take_at 0 posts ∷ [] → new ≡ take_at 0 posts ∷ []
cut_first old new posts fresh is = is ∙ ap (λ (cuts : List (Take Post)). cuts ++ take_at 0 posts ∷ []) fresh

pub returns-in_err-posts-clause-cut : goal.returns-in_err-posts-clause-cut
returns-in_err-posts-clause-cut g c = let took = c.in_err-posts.ensures.took in (took.0, cut_first _ _ took.0 c.requires.fresh took.1)

pub returns-in_err-posts-clause-stopped : goal.returns-in_err-posts-clause-stopped
returns-in_err-posts-clause-stopped g c = λ cause of.
    c.in_err-posts.ensures.stopped cause (ap Err (same_fault c.from_residual.result c.in_err-posts.field-0.0 (Stopped cause) c.from_residual.ensures.1 of))

pub returns-in_err-posts-clause-failed : goal.returns-in_err-posts-clause-failed
returns-in_err-posts-clause-failed g c = λ of.
    absurd (c.in_err-posts.ensures.unwritten (ap Err (same_fault c.from_residual.result c.in_err-posts.field-0.0 Write c.from_residual.ensures.1 of)))

pub returns-in_err-posts-clause-broken : goal.returns-in_err-posts-clause-broken
returns-in_err-posts-clause-broken g c =
    let took = c.in_err-posts.ensures.took in
    on_err_some c.from_residual.result
    (for_cuts_before 0 [] (taken_by c.cut_lines.new.cutter) (take_at 0 took.0) (cut_first _ _ took.0 c.requires.fresh took.1) refl (All-nil IsLine)
    (λ takes agrees makers posed by origin. front_none _ (g.K.Sink.state c.args.out.now)))

pub returns-in_err-running-clause-cut : goal.returns-in_err-running-clause-cut
returns-in_err-running-clause-cut g c = let took = c.in_ok-posts.ensures.took in (took.0, cut_first _ _ took.0 c.requires.fresh took.1)

pub returns-in_err-running-clause-stopped : goal.returns-in_err-running-clause-stopped
returns-in_err-running-clause-stopped g c = λ cause of.
    absurd (no_stop_printing c.in_err-running.field-0.0 cause (same_fault c.from_residual-in_err-running.result _ (Stopped cause) c.from_residual-in_err-running.ensures.1 of))

pub returns-in_err-running-clause-failed : goal.returns-in_err-running-clause-failed
returns-in_err-running-clause-failed g c = λ of.
    let m = g.B.Book.meaning in
    let domain = domain_view c.args.domain.now in
    let state = origin_state c.args.origin in
    let is = write_printing c.in_err-running.field-0.0 (same_fault c.from_residual-in_err-running.result _ Write c.from_residual-in_err-running.ensures.1 of) in
    (c.in_err-running.ensures.prints [] (posed_at m [] domain c.args.settings.now state) (is_posed_at m [] domain c.args.settings.now state) refl).failed (ap Err is)

pub returns-in_err-running-clause-later : goal.returns-in_err-running-clause-later
returns-in_err-running-clause-later g c =
    let m = g.B.Book.meaning in
    let domain = domain_view c.args.domain.now in
    let state = origin_state c.args.origin in
    (c.in_err-running.ensures.prints [] (posed_at m [] domain c.args.settings.now state) (is_posed_at m [] domain c.args.settings.now state) refl).later

pub returns-in_err-running-clause-broken : goal.returns-in_err-running-clause-broken
returns-in_err-running-clause-broken g c =
    let took = c.in_ok-posts.ensures.took in
    let is = cut_first _ _ took.0 c.requires.fresh took.1 in
    let feed = feed_of (domain_view c.args.domain.now) in
    let quiet = subst HasNoStop (sym is) (no_stop_more [] 0 took.0 (All-nil IsLine) (subst (All IsLine) took.2 c.in_ok-posts.ensures.lines)) in
    on_err_some c.from_residual-in_err-running.result
    (for_all_cuts 0 (taken_by c.cut_lines.new.cutter) (omega arith) quiet
    (λ takes agrees makers posed by origin.
    let lines : taken_at 0 c.as_slice.result.now ≡ takes 0 =
    ap (taken_at 0) (c.as_slice.ensures ∙ took.2) ∙ sym (takes_at takes [] 0 took.0 refl (subst (AgreesWith takes) is agrees)) in
    subst (λ (those : List Taken). WroteFront (opening_text feed posed 0 those posed.origin) (g.K.Sink.state c.args.out.now) (g.K.Sink.state c.first_leg.new.out)) lines
    (c.in_err-running.ensures.prints makers posed by origin).front))

pub returns-clause-cut : goal.returns-clause-cut
returns-clause-cut g c = let took = c.in_ok-posts.ensures.took in (took.0, cut_first _ _ took.0 c.requires.fresh took.1)

pub returns-clause-no_stop : goal.returns-clause-no_stop
returns-clause-no_stop g c =
    let took = c.in_ok-posts.ensures.took in
    subst HasNoStop (sym (cut_first _ _ took.0 c.requires.fresh took.1)) (no_stop_more [] 0 took.0 (All-nil IsLine) (subst (All IsLine) took.2 c.in_ok-posts.ensures.lines))

pub returns-clause-later : goal.returns-clause-later
returns-clause-later g c =
    let m = g.B.Book.meaning in
    let domain = domain_view c.args.domain.now in
    let state = origin_state c.args.origin in
    (c.in_ok-running.ensures.prints [] (posed_at m [] domain c.args.settings.now state) (is_posed_at m [] domain c.args.settings.now state) refl).later

pub returns-clause-printed : goal.returns-clause-printed
returns-clause-printed g c = λ takes agrees makers posed by origin.
    let took = c.in_ok-posts.ensures.took in
    let feed = feed_of (domain_view c.args.domain.now) in
    let agreed = subst (AgreesWith takes) (cut_first _ _ took.0 c.requires.fresh took.1) agrees in
    let lines : taken_at 0 c.as_slice.result.now ≡ takes 0 =
    ap (taken_at 0) (c.as_slice.ensures ∙ took.2) ∙ sym (takes_at takes [] 0 took.0 refl agreed) in
    subst (λ (those : List Taken). Wrote (opening_text feed posed 0 those posed.origin) (g.K.Sink.state c.args.out.now) (g.K.Sink.state c.first_leg.new.out)) lines
    (c.in_ok-running.ensures.prints makers posed by origin).whole

pub returns-clause-live : goal.returns-clause-live
returns-clause-live g c = λ takes agrees makers posed by origin.
    let took = c.in_ok-posts.ensures.took in
    let feed = feed_of (domain_view c.args.domain.now) in
    let running = c.in_ok-running.running in
    let agreed = subst (AgreesWith takes) (cut_first _ _ took.0 c.requires.fresh took.1) agrees in
    let lines : taken_at 0 c.as_slice.result.now ≡ takes 0 =
    ap (taken_at 0) (c.as_slice.ensures ∙ took.2) ∙ sym (takes_at takes [] 0 took.0 refl agreed) in
    subst (λ (those : List Taken). IsLive running.core running.team.worker running.best running.names posed 1 (bare (leg_begun feed posed 0 those posed.origin))) lines
    (c.in_ok-running.ensures.live makers posed by origin)
