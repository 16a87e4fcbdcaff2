use Rattle.std.proofs.Common.{◌∙◌, suc, [], ap, refl, sym, subst}
use Rattle.std.proofs.lemmas.List.{append-nil}
use Rattle.plan_rules.specs.Range.{MayJudge, sizes_of}
use Rattle.live_lines.specs.Taking.{searched, taken_at}
use Rattle.plan_json.specs.Seen.{domain_view}
use Rattle.plan_search.specs.Posed.{State}
use Rattle.score_director.specs.View.{DirectorView, at_rest}
use Rattle.plan_session.specs.Course.{best_in}
use Rattle.plan_session.specs.Fed.{bare}
use Rattle.plan_session.specs.Live.{IsLive, leg_begun, opening_text}
use Rattle.plan_session.specs.Replayed.{feed_of}
use Rattle.plan_session.proofs.Begun.{failed, prints_too, wanted, wanted_then, way_from}
use Rattle.plan_session.proofs.LegLaws.{at_best, best_of_schema, is_ended, lines_begin, own_rules, settings_of}
use Rattle.plan_session.proofs.Printed.{prints_as}
use Rattle.plan_session.proofs.legs.begin_next.Goals as goal

pub lead_director-requires-clause-judges : goal.lead_director-requires-clause-judges
lead_director-requires-clause-judges g c κs within =
    let rules = c.args.domain.now.rules in (
      c.requires.judges.0,
      subst (λ (d : DirectorView). MayJudge rules.defs rules.caps d.weights (sizes_of d.plan)) (sym c.into_director-director.ensures.director) c.requires.judges.1,
    )

pub lead_director-requires-clause-own : goal.lead_director-requires-clause-own
lead_director-requires-clause-own g c κs within =
    let made = c.requires.made in
    let running = c.args.running in
    own_rules g.B.Book.meaning made.0 (domain_view c.args.domain.now) c.args.settings.now made.1 made.3 made.2 running.team.worker running.best made.4.made.at
    ∙ sym (ap (λ (d : DirectorView). d.rules) c.into_director-director.ensures.director)

pub lead_director-requires-clause-way : goal.lead_director-requires-clause-way
lead_director-requires-clause-way g c κs within =
    let made = c.requires.made in
    let running = c.args.running in (
      (best_in made.1 made.2).plan,
      way_from made.1 made.2 running.team.worker running.best c.into_director-director.result.plan made.4.made.at
          (ap (λ (d : DirectorView). d.plan) c.into_director-director.ensures.director),
    )

pub open_leg-requires-clause-schema : goal.open_leg-requires-clause-schema
open_leg-requires-clause-schema g c κs within =
    let made = c.requires.made in
    let running = c.args.running in
    let was = c.into_director-director.ensures.director in
    let rules = c.args.domain.now.rules.defs in
    let best = (best_in made.1 made.2).plan in
    let led = c.in_ok-lead_director.ensures.best best
    (way_from made.1 made.2 running.team.worker running.best c.into_director-director.result.plan made.4.made.at (ap (λ (d : DirectorView). d.plan) was)) in
    best_of_schema made.1 made.2 running.names running.team.worker running.best made.4.made.at made.4.framed c.args.domain.now.schema rules
    c.lead_director.new.director made.3.classes (led ∙ ap (λ (d : DirectorView). at_rest rules d.weights best) was)

pub open_leg-requires-clause-ended : goal.open_leg-requires-clause-ended
open_leg-requires-clause-ended g c κs within =
    let made = c.requires.made in
    is_ended made.1 c.args.boundary made.2 c.args.running.core made.4.made.ended

pub open_leg-requires-clause-terms : goal.open_leg-requires-clause-terms
open_leg-requires-clause-terms g c κs within =
    let made = c.requires.made in
    settings_of g.B.Book.meaning made.0 (domain_view c.args.domain.now) c.args.settings.now made.1 made.3 c.args.boundary made.2 c.args.running.core made.4.made.ended

pub open_leg-requires-clause-begins : goal.open_leg-requires-clause-begins
open_leg-requires-clause-begins g c κs within = lines_begin c.args.boundary _ c.requires.some

pub returns-in_err-lead_director-clause-prints : goal.returns-in_err-lead_director-clause-prints
returns-in_err-lead_director-clause-prints g c = λ makers posed leg by live.
    wanted c.from_residual.result _ (g.K.Sink.state c.args.out.now) c.from_residual.ensures.1

pub returns-in_err-open_leg-clause-prints : goal.returns-in_err-open_leg-clause-prints
returns-in_err-open_leg-clause-prints g c = λ makers posed leg by live.
    let running = c.args.running in
    let was = c.into_director-director.ensures.director in
    let rules = c.args.domain.now.rules.defs in
    let best = (best_in posed leg).plan in
    let feed = feed_of (domain_view c.args.domain.now) in
    let lines = taken_at c.args.boundary c.args.posts.now in
    let led = c.in_ok-lead_director.ensures.best best
    (way_from posed leg running.team.worker running.best c.into_director-director.result.plan live.made.at (ap (λ (d : DirectorView). d.plan) was)) in
    let here = at_best posed leg running.names running.team.worker running.best live.made.at live.framed rules c.lead_director.new.director
    (led ∙ ap (λ (d : DirectorView). at_rest rules d.weights best) was) in
    failed c.from_residual-in_err-open_leg.result c.in_err-open_leg.field-0.0 (opening_text feed posed c.args.boundary lines (best_in posed leg))
    (g.K.Sink.state c.args.out.now) (g.K.Sink.state c.open_leg.new.out) c.from_residual-in_err-open_leg.ensures.1
    (prints_as _ _ _ (g.K.Sink.state c.args.out.now) (g.K.Sink.state c.open_leg.new.out) (ap (opening_text feed posed c.args.boundary lines) here)
    (c.in_err-open_leg.ensures.prints makers posed by))

pub returns-in_err-next-clause-prints : goal.returns-in_err-next-clause-prints
returns-in_err-next-clause-prints g c = λ makers posed leg by live.
    let running = c.args.running in
    let was = c.into_director-director.ensures.director in
    let rules = c.args.domain.now.rules.defs in
    let best = (best_in posed leg).plan in
    let feed = feed_of (domain_view c.args.domain.now) in
    let lines = taken_at c.args.boundary c.args.posts.now in
    let led = c.in_ok-lead_director.ensures.best best
    (way_from posed leg running.team.worker running.best c.into_director-director.result.plan live.made.at (ap (λ (d : DirectorView). d.plan) was)) in
    let here = at_best posed leg running.names running.team.worker running.best live.made.at live.framed rules c.lead_director.new.director
    (led ∙ ap (λ (d : DirectorView). at_rest rules d.weights best) was) in
    let text = opening_text feed posed c.args.boundary lines (best_in posed leg) in
    wanted_then c.in_ok-open_leg.field-0 c.from_residual-in_err-next.result text [] text (g.K.Sink.state c.args.out.now) (g.K.Sink.state c.open_leg.new.out)
    (append-nil text)
    (prints_as _ _ _ (g.K.Sink.state c.args.out.now) (g.K.Sink.state c.open_leg.new.out) (ap (opening_text feed posed c.args.boundary lines) here)
    (c.in_ok-open_leg.ensures.prints makers posed by))
    c.from_residual-in_err-next.ensures.1

pub returns-clause-prints : goal.returns-clause-prints
returns-clause-prints g c = λ makers posed leg by live.
    let running = c.args.running in
    let was = c.into_director-director.ensures.director in
    let rules = c.args.domain.now.rules.defs in
    let best = (best_in posed leg).plan in
    let feed = feed_of (domain_view c.args.domain.now) in
    let lines = taken_at c.args.boundary c.args.posts.now in
    let led = c.in_ok-lead_director.ensures.best best
    (way_from posed leg running.team.worker running.best c.into_director-director.result.plan live.made.at (ap (λ (d : DirectorView). d.plan) was)) in
    let here = at_best posed leg running.names running.team.worker running.best live.made.at live.framed rules c.lead_director.new.director
    (led ∙ ap (λ (d : DirectorView). at_rest rules d.weights best) was) in
    prints_too c.in_ok-open_leg.field-0 c.in_ok-next.next (opening_text feed posed c.args.boundary lines (best_in posed leg))
    (g.K.Sink.state c.args.out.now) (g.K.Sink.state c.open_leg.new.out)
    (prints_as _ _ _ (g.K.Sink.state c.args.out.now) (g.K.Sink.state c.open_leg.new.out) (ap (opening_text feed posed c.args.boundary lines) here)
    (c.in_ok-open_leg.ensures.prints makers posed by))

pub returns-clause-live : goal.returns-clause-live
returns-clause-live g c = λ makers posed leg by live.
    let running = c.args.running in
    let was = c.into_director-director.ensures.director in
    let rules = c.args.domain.now.rules.defs in
    let best = (best_in posed leg).plan in
    let feed = feed_of (domain_view c.args.domain.now) in
    let lines = taken_at c.args.boundary c.args.posts.now in
    let led = c.in_ok-lead_director.ensures.best best
    (way_from posed leg running.team.worker running.best c.into_director-director.result.plan live.made.at (ap (λ (d : DirectorView). d.plan) was)) in
    let here = at_best posed leg running.names running.team.worker running.best live.made.at live.framed rules c.lead_director.new.director
    (led ∙ ap (λ (d : DirectorView). at_rest rules d.weights best) was) in
    let next = c.in_ok-next.next in
    subst (λ (s : State). IsLive next.core next.team.worker next.best next.names posed (suc c.args.boundary) (bare (leg_begun feed posed c.args.boundary lines s))) here
    (c.in_ok-next.ensures.live makers posed c.args.boundary (bare (leg_begun feed posed c.args.boundary lines (searched c.lead_director.new.director running.names)))
    by refl (c.in_ok-open_leg.ensures.opened makers posed by))
