use Rattle.std.proofs.Common.{◌∙◌, ◌<◌, ℕ, List, map, refl, sym, ap, subst}
use Rattle.plan_rules.specs.Range.{MayJudge, sizes_of}
use Rattle.score_director.specs.View.{DirectorView}
use Rattle.plan_json.specs.Seen.{domain_view}
use Rattle.plan_settings.specs.declared.settings.Settings.{Settings}
use Rattle.plan_search.specs.Quiet.{leg_after, lines_after}
use Rattle.plan_search.specs.RunLines.{text_of}
use Rattle.move_workers.specs.Teams.{TeamView}
use Rattle.plan_session.specs.Course.{best_in}
use Rattle.plan_session.proofs.Begun.{decider_ready, failed, plays_by, prints_too, reports_by, starts_at, wanted_before_steps, way_from}
use Rattle.plan_session.proofs.searching.search.Goals as goal

pub returns-in_err-team-clause-prints : goal.returns-in_err-team-clause-prints
returns-in_err-team-clause-prints g c = λ posed start by begun printed.
    wanted_before_steps posed c.args.settings.now.steps c.from_residual.result start (g.K.Sink.state c.args.out.now) printed c.from_residual.ensures.1

pub new-requires-clause-rest : goal.new-requires-clause-rest
new-requires-clause-rest g c κs within =
    let begun = c.requires.begun in
    let stands = begun.2.stands in
    λ i. record {
      rules = (ap (λ (d : DirectorView). d.rules) stands ∙ sym begun.1.rules) i;
      weights = c.requires.weights i;
      plan = c.args.director.plan;
      base = ap (λ (d : DirectorView). d.base) stands i;
    }

pub new-requires-clause-judges : goal.new-requires-clause-judges
new-requires-clause-judges g c κs within =
    let rules = c.args.domain.now.rules in (
      c.requires.judges.0,
      subst (λ (weights : List ℕ). MayJudge rules.defs rules.caps weights (sizes_of c.args.director.plan)) c.requires.weights c.requires.judges.1,
    )

pub do_steps-requires-clause-ready : goal.do_steps-requires-clause-ready
do_steps-requires-clause-ready g c κs within =
    let begun = c.requires.begun in
    λ some. decider_ready begun.0 c.args.core begun.2.decides (subst (λ (s : Settings). 0 < s.steps) begun.1.settings_are some)

pub returns-in_err-do_steps-clause-prints : goal.returns-in_err-do_steps-clause-prints
returns-in_err-do_steps-clause-prints g c = λ posed start by begun printed.
    let m = g.B.Book.meaning in
    let domain = domain_view c.args.domain.now in
    let settings = c.args.settings.now in
    failed c.from_residual-in_err-do_steps.result c.in_err-do_steps.field-0.0 (text_of posed (lines_after posed settings.steps)) start (g.K.Sink.state c.do_steps.new.out)
    c.from_residual-in_err-do_steps.ensures.1
    (c.in_err-do_steps.ensures.prints posed start (ap (λ (s : Settings). s.steps) by.settings_are)
    (reports_by m _ domain settings posed by _ refl c.as_slice.ensures)
    (plays_by m _ domain settings posed by _ _ _ refl c.as_slice-2.ensures (ap (map _) c.deref.ensures.value))
    (starts_at m _ domain settings posed by c.args.director c.args.core c.in_ok-team.team.worker c.begin-best.result c.score-score.result begun
    (ap (λ (t : TeamView). t.worker) c.in_ok-team.ensures) c.score-score.ensures c.begin-best.ensures.score c.begin-best.ensures.back c.begin-best.ensures.wins)
    printed)

pub lead_back-requires : goal.lead_back-requires
lead_back-requires g c =
    let m = g.B.Book.meaning in
    let domain = domain_view c.args.domain.now in
    let settings = c.args.settings.now in
    let posed = c.requires.begun.0 in
    let by = c.requires.begun.1 in
    let course = c.in_ok-do_steps.ensures.went_on posed (ap (λ (s : Settings). s.steps) by.settings_are)
    (plays_by m _ domain settings posed by _ _ _ refl c.as_slice-2.ensures (ap (map _) c.deref.ensures.value))
    (starts_at m _ domain settings posed by c.args.director c.args.core c.in_ok-team.team.worker c.begin-best.result c.score-score.result c.requires.begun.2
    (ap (λ (t : TeamView). t.worker) c.in_ok-team.ensures) c.score-score.ensures c.begin-best.ensures.score c.begin-best.ensures.back c.begin-best.ensures.wins) in (
      (best_in posed (leg_after posed settings.steps)).plan,
      way_from posed (leg_after posed settings.steps) c.do_steps.new.team.worker c.do_steps.new.best c.into_plan-plan.result course.at (c.into_plan-plan.ensures ∙ ap (λ (d : DirectorView). d.plan) c.into_director.ensures.director),
    )

pub returns-clause-prints : goal.returns-clause-prints
returns-clause-prints g c = λ posed start by begun printed.
    let m = g.B.Book.meaning in
    let domain = domain_view c.args.domain.now in
    let settings = c.args.settings.now in
    prints_too c.in_ok-do_steps.field-0 _ (text_of posed (lines_after posed settings.steps)) start (g.K.Sink.state c.do_steps.new.out)
    (c.in_ok-do_steps.ensures.prints posed start (ap (λ (s : Settings). s.steps) by.settings_are)
    (reports_by m _ domain settings posed by _ refl c.as_slice.ensures)
    (plays_by m _ domain settings posed by _ _ _ refl c.as_slice-2.ensures (ap (map _) c.deref.ensures.value))
    (starts_at m _ domain settings posed by c.args.director c.args.core c.in_ok-team.team.worker c.begin-best.result c.score-score.result begun
    (ap (λ (t : TeamView). t.worker) c.in_ok-team.ensures) c.score-score.ensures c.begin-best.ensures.score c.begin-best.ensures.back c.begin-best.ensures.wins)
    printed)

pub returns-clause-searched : goal.returns-clause-searched
returns-clause-searched g c = λ posed by begun.
    let m = g.B.Book.meaning in
    let domain = domain_view c.args.domain.now in
    let settings = c.args.settings.now in
    let course = c.in_ok-do_steps.ensures.went_on posed (ap (λ (s : Settings). s.steps) by.settings_are)
    (plays_by m _ domain settings posed by _ _ _ refl c.as_slice-2.ensures (ap (map _) c.deref.ensures.value))
    (starts_at m _ domain settings posed by c.args.director c.args.core c.in_ok-team.team.worker c.begin-best.result c.score-score.result begun
    (ap (λ (t : TeamView). t.worker) c.in_ok-team.ensures) c.score-score.ensures c.begin-best.ensures.score c.begin-best.ensures.back c.begin-best.ensures.wins) in
    record {
      best = c.lead_back.ensures.best _
          (way_from posed (leg_after posed settings.steps) c.do_steps.new.team.worker c.do_steps.new.best c.into_plan-plan.result course.at (c.into_plan-plan.ensures ∙ ap (λ (d : DirectorView). d.plan) c.into_director.ensures.director));
      score = course.at.score;
      wins = course.at.wins;
    }
