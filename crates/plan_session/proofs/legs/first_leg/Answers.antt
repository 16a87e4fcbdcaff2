use Rattle.std.proofs.Common.{[], ap, refl, subst, sym}
use Rattle.std.proofs.lemmas.List.{append-nil}
use Rattle.plan_rules.specs.Range.{MayJudge, sizes_of}
use Rattle.plan_changes.specs.Fits.{IsOfSchema}
use Rattle.live_lines.specs.Taking.{taken_at}
use Rattle.plan_json.specs.Seen.{domain_view}
use Rattle.plan_search.specs.Posed.{State}
use Rattle.score_director.specs.View.{DirectorView}
use Rattle.search_core.specs.Desk.{Terms}
use Rattle.plan_session.specs.Fed.{bare}
use Rattle.plan_session.specs.Live.{IsLive, leg_begun, opening_text}
use Rattle.plan_session.specs.Replayed.{feed_of}
use Rattle.plan_session.proofs.Begun.{failed, prints_too, wanted, wanted_then}
use Rattle.plan_session.proofs.LegLaws.{read_state}
use Rattle.plan_session.proofs.Printed.{prints_as}
use Rattle.plan_session.proofs.legs.first_leg.Goals as goal

pub open_leg-requires-clause-judges : goal.open_leg-requires-clause-judges
open_leg-requires-clause-judges g c κs within =
    let rules = c.args.domain.now.rules in (
      c.requires.judges.0,
      subst (λ (d : DirectorView). MayJudge rules.defs rules.caps d.weights (sizes_of d.plan)) (sym c.in_ok-director.ensures) c.requires.judges.1,
    )

pub open_leg-requires-clause-own : goal.open_leg-requires-clause-own
open_leg-requires-clause-own g c κs within = sym (ap (λ (d : DirectorView). d.rules) c.in_ok-director.ensures)

pub open_leg-requires-clause-rest : goal.open_leg-requires-clause-rest
open_leg-requires-clause-rest g c κs within = ap (λ (d : DirectorView). d.base) c.in_ok-director.ensures

pub open_leg-requires-clause-schema : goal.open_leg-requires-clause-schema
open_leg-requires-clause-schema g c κs within =
    subst (λ (d : DirectorView). IsOfSchema c.args.domain.now.schema d.plan) (sym c.in_ok-director.ensures) c.requires.schema

pub open_leg-requires-clause-terms : goal.open_leg-requires-clause-terms
open_leg-requires-clause-terms g c κs within = ap (λ (t : Terms). t.settings) c.in_ok-core.ensures.terms

pub returns-in_err-director-clause-prints : goal.returns-in_err-director-clause-prints
returns-in_err-director-clause-prints g c = λ makers posed by origin.
    wanted c.from_residual.result _ (g.K.Sink.state c.args.out.now) c.from_residual.ensures.1

pub returns-in_err-core-clause-prints : goal.returns-in_err-core-clause-prints
returns-in_err-core-clause-prints g c = λ makers posed by origin.
    wanted c.from_residual-in_err-core.result _ (g.K.Sink.state c.args.out.now) c.from_residual-in_err-core.ensures.1

pub returns-in_err-open_leg-clause-prints : goal.returns-in_err-open_leg-clause-prints
returns-in_err-open_leg-clause-prints g c = λ makers posed by origin.
    let feed = feed_of (domain_view c.args.domain.now) in
    let lines = taken_at 0 c.args.posts.now in
    let here = read_state c.args.domain.now.rules.defs c.args.plan c.args.names c.args.weights c.in_ok-director.director posed.origin c.in_ok-director.ensures origin in
    failed c.from_residual-in_err-open_leg.result c.in_err-open_leg.field-0.0 (opening_text feed posed 0 lines posed.origin)
    (g.K.Sink.state c.args.out.now) (g.K.Sink.state c.open_leg.new.out) c.from_residual-in_err-open_leg.ensures.1
    (prints_as _ _ _ (g.K.Sink.state c.args.out.now) (g.K.Sink.state c.open_leg.new.out) (ap (opening_text feed posed 0 lines) here) (c.in_err-open_leg.ensures.prints makers posed by))

pub returns-in_err-running-clause-prints : goal.returns-in_err-running-clause-prints
returns-in_err-running-clause-prints g c = λ makers posed by origin.
    let feed = feed_of (domain_view c.args.domain.now) in
    let lines = taken_at 0 c.args.posts.now in
    let text = opening_text feed posed 0 lines posed.origin in
    let here = read_state c.args.domain.now.rules.defs c.args.plan c.args.names c.args.weights c.in_ok-director.director posed.origin c.in_ok-director.ensures origin in
    wanted_then c.in_ok-open_leg.field-0 c.from_residual-in_err-running.result text [] text (g.K.Sink.state c.args.out.now) (g.K.Sink.state c.open_leg.new.out) (append-nil text)
    (prints_as _ _ _ (g.K.Sink.state c.args.out.now) (g.K.Sink.state c.open_leg.new.out) (ap (opening_text feed posed 0 lines) here) (c.in_ok-open_leg.ensures.prints makers posed by))
    c.from_residual-in_err-running.ensures.1

pub returns-clause-prints : goal.returns-clause-prints
returns-clause-prints g c = λ makers posed by origin.
    let feed = feed_of (domain_view c.args.domain.now) in
    let lines = taken_at 0 c.args.posts.now in
    let here = read_state c.args.domain.now.rules.defs c.args.plan c.args.names c.args.weights c.in_ok-director.director posed.origin c.in_ok-director.ensures origin in
    prints_too c.in_ok-open_leg.field-0 c.in_ok-running.running (opening_text feed posed 0 lines posed.origin) (g.K.Sink.state c.args.out.now) (g.K.Sink.state c.open_leg.new.out)
    (prints_as _ _ _ (g.K.Sink.state c.args.out.now) (g.K.Sink.state c.open_leg.new.out) (ap (opening_text feed posed 0 lines) here) (c.in_ok-open_leg.ensures.prints makers posed by))

pub returns-clause-live : goal.returns-clause-live
returns-clause-live g c = λ makers posed by origin.
    let feed = feed_of (domain_view c.args.domain.now) in
    let lines = taken_at 0 c.args.posts.now in
    let here = read_state c.args.domain.now.rules.defs c.args.plan c.args.names c.args.weights c.in_ok-director.director posed.origin c.in_ok-director.ensures origin in
    let running = c.in_ok-running.running in
    subst (λ (s : State). IsLive running.core running.team.worker running.best running.names posed 1 (bare (leg_begun feed posed 0 lines s))) here
    (c.in_ok-running.ensures.live makers posed 0 (bare (leg_begun feed posed 0 lines _)) by refl (c.in_ok-open_leg.ensures.opened makers posed by))
