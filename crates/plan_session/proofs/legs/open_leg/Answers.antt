use Rattle.std.proofs.Common.{◌∙◌, List, refl, subst}
use Rattle.live_lines.specs.Taking.{searched, taken_at}
use Rattle.plan_json.specs.Seen.{domain_view}
use Rattle.plan_session.specs.Fed.{bare}
use Rattle.plan_session.specs.Live.{leg_begun}
use Rattle.plan_session.specs.Printing.{Prints}
use Rattle.plan_session.specs.Replayed.{feed_of}
use Rattle.plan_session.proofs.Begun.{wanted}
use Rattle.plan_session.proofs.LegLaws.{IsPlaced, opened, opening_is, start_is}
use Rattle.plan_session.proofs.Stepped.{on_ok}
use Rattle.plan_session.proofs.legs.open_leg.Goals as goal

pub returns-in_err-told-clause-prints : goal.returns-in_err-told-clause-prints
returns-in_err-told-clause-prints g c = λ makers posed by.
    wanted c.from_residual.result _ (g.K.Sink.state c.args.out.now) c.from_residual.ensures.1

pub returns-in_err-course-clause-prints : goal.returns-in_err-course-clause-prints
returns-in_err-course-clause-prints g c = λ makers posed by.
    wanted c.from_residual-in_err-course.result _ (g.K.Sink.state c.args.out.now) c.from_residual-in_err-course.ensures.1

pub returns-in_err-begin_leg-clause-prints : goal.returns-in_err-begin_leg-clause-prints
returns-in_err-begin_leg-clause-prints g c = λ makers posed by.
    wanted c.from_residual-in_err-begin_leg.result _ (g.K.Sink.state c.args.out.now) c.from_residual-in_err-begin_leg.ensures.1

pub returns-clause-prints : goal.returns-clause-prints
returns-clause-prints g c = λ makers posed by.
    let m = g.B.Book.meaning in
    let domain = domain_view c.args.domain.now in
    let lines = taken_at c.args.boundary c.args.posts.now in
    let state = searched c.args.director.now c.args.names.now in
    let is : IsPlaced m makers domain c.args.settings.now posed by (feed_of domain) c.args.boundary lines state
    c.take_posts.new.director c.place_on.new.director c.take_posts.new.names c.in_ok-course.course c.score-start.result = record {
      handles = c.in_ok-told.ensures.took.state;
      course_is = c.in_ok-course.ensures.course;
      rests = c.in_ok-course.ensures.rest;
      scored = c.score-start.ensures;
    } in
    subst (λ (text : List _). Prints c.print_opening.result text (g.K.Sink.state c.args.out.now) (g.K.Sink.state c.print_opening.new.out))
    (opening_is m makers domain c.args.settings.now posed by (feed_of domain) c.args.boundary lines state
    c.take_posts.new.director c.place_on.new.director c.take_posts.new.names c.in_ok-course.course c.score-start.result is c.deref.result.now (c.deref.ensures.value ∙ c.in_ok-told.ensures.took.told))
    c.print_opening.ensures.prints

pub returns-clause-opened : goal.returns-clause-opened
returns-clause-opened g c =
    let m = g.B.Book.meaning in
    let domain = domain_view c.args.domain.now in
    let lines = taken_at c.args.boundary c.args.posts.now in
    let state = searched c.args.director.now c.args.names.now in
    let feed = feed_of domain in
    on_ok c.print_opening.result _
    (λ makers posed by.
    let is : IsPlaced m makers domain c.args.settings.now posed by (feed_of domain) c.args.boundary lines state
    c.take_posts.new.director c.place_on.new.director c.take_posts.new.names c.in_ok-course.course c.score-start.result = record {
      handles = c.in_ok-told.ensures.took.state;
      course_is = c.in_ok-course.ensures.course;
      rests = c.in_ok-course.ensures.rest;
      scored = c.score-start.ensures;
    } in
    let start = start_is m makers domain c.args.settings.now posed by feed c.args.boundary lines state
    c.take_posts.new.director c.place_on.new.director c.take_posts.new.names c.in_ok-course.course c.score-start.result is in
    opened m makers domain c.args.settings.now posed by feed c.args.boundary lines state
    c.take_posts.new.director c.place_on.new.director c.take_posts.new.names c.in_ok-course.course c.score-start.result is
    c.begin_leg.new.core
    (c.in_ok-begin_leg.ensures.decides posed (bare (leg_begun feed posed c.args.boundary lines state))
    (c.requires.terms ∙ by.settings_are) refl start)
    c.in_ok-told.ensures.schema)
