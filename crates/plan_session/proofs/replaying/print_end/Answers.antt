use Rattle.std.proofs.Common.{◌≡◌, ◌∙◌, List, ℕ, ap, subst, sym}
use Rattle.plan_rules.specs.Range.{MayJudge, sizes_of}
use Rattle.plan_json.specs.Seen.{domain_view}
use Rattle.plan_search.specs.RunLines.{best_lines_of, text_of}
use Rattle.score_director.specs.View.{DirectorView}
use Rattle.plan_session.specs.Begun.{best_text}
use Rattle.plan_session.specs.Course.{best_in}
use Rattle.plan_session.proofs.Begun.{wanted, way_from}
use Rattle.plan_session.proofs.Kept.{best_text_at}
use Rattle.plan_session.proofs.LegLaws.{weights_stay}
use Rattle.plan_session.proofs.Printed.{prints_as}
use Rattle.plan_session.proofs.replaying.print_end.Goals as goal

pub returns-in_err-weights : goal.returns-in_err-weights
returns-in_err-weights g c = λ makers settings posed k leg by live.
    wanted c.from_residual.result _ (g.K.Sink.state c.args.out.now) c.from_residual.ensures.1

pub lead_back-requires : goal.lead_back-requires
lead_back-requires g c =
    let live = c.requires.live in
    let running = c.args.running in (
      (best_in live.0 live.2).plan,
      way_from live.0 live.2 running.team.worker running.best c.into_plan-plan.result live.3.course.at
          (c.into_plan-plan.ensures ∙ ap (λ (d : DirectorView). d.plan) c.into_director-director.ensures.director),
    )

pub print_best-requires-clause-judges : goal.print_best-requires-clause-judges
print_best-requires-clause-judges g c κs within =
    let rules = c.args.domain.now.rules in
    let seen = c.args.running.team.worker.director in
    let was = c.into_director-director.ensures.director in
    let weights : c.as_slice.result.now ≡ seen.weights =
    c.as_slice.ensures ∙ c.in_ok-weights.ensures ∙ c.weights.ensures ∙ ap (λ (d : DirectorView). d.weights) was in
    let sizes : sizes_of c.lead_back.new.plan ≡ sizes_of seen.plan =
    c.lead_back.ensures.sizes ∙ ap sizes_of (c.into_plan-plan.ensures ∙ ap (λ (d : DirectorView). d.plan) was) in (
      c.requires.judges.0,
      subst (λ (w : List ℕ). MayJudge rules.defs rules.caps w (sizes_of c.lead_back.new.plan)) (sym weights)
          (subst (λ (s : List ℕ). MayJudge rules.defs rules.caps seen.weights s) (sym sizes) c.requires.judges.1),
    )

pub returns : goal.returns
returns g c = λ makers settings posed k leg by live.
    let running = c.args.running in
    let was = c.into_director-director.ensures.director in
    let domain = domain_view c.args.domain.now in
    let weights : c.as_slice.result.now ≡ running.team.worker.director.weights =
    c.as_slice.ensures ∙ c.in_ok-weights.ensures ∙ c.weights.ensures ∙ ap (λ (d : DirectorView). d.weights) was in
    let home : c.lead_back.new.plan ≡ (best_in posed leg).plan =
    c.lead_back.ensures.best (best_in posed leg).plan
    (way_from posed leg running.team.worker running.best c.into_plan-plan.result live.course.at (c.into_plan-plan.ensures ∙ ap (λ (d : DirectorView). d.plan) was)) in
    let stay = weights_stay posed leg running.names running.team.worker running.best live.course.at live.framed in
    prints_as c.print_best.result (best_text g.B.Book.meaning domain c.lead_back.new.plan c.as_slice.result.now) (text_of posed (best_lines_of posed (best_in posed leg)))
    (g.K.Sink.state c.args.out.now) (g.K.Sink.state c.print_best.new.out)
    (best_text_at g.B.Book.meaning makers domain settings posed by c.lead_back.new.plan c.as_slice.result.now (best_in posed leg) home (weights ∙ stay))
    c.print_best.ensures
