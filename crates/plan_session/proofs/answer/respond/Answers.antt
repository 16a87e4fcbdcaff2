use Rattle.plan_json.specs.Accepted.{problem_view}
use Rattle.plan_json.specs.Seen.{domain_view}
use Rattle.plan_session.specs.declared.task.Wanted.TheVariants as want
use Rattle.plan_session.proofs.DueLaws.{ended_wanted}
use Rattle.plan_session.proofs.answer.respond.Goals as goal

pub returns-in-Solution-clause-ended : goal.returns-in-Solution-clause-ended
returns-in-Solution-clause-ended g c =
    ended_wanted g.B.Book.meaning _ (want.Solution c.in-Solution.hands) c.args.wanted (domain_view c.args.domain.now) (problem_view c.args.problem) _ _ _ c.in-Solution.is
    (c.status_of.ensures _ _ _ c.solve.ensures)

pub returns-in-Score-clause-ended : goal.returns-in-Score-clause-ended
returns-in-Score-clause-ended g c =
    ended_wanted g.B.Book.meaning _ want.Score c.args.wanted (domain_view c.args.domain.now) (problem_view c.args.problem) _ _ _ c.in-Score.is
    c.respond_score.ensures.ended

pub returns-in-Explanation-clause-ended : goal.returns-in-Explanation-clause-ended
returns-in-Explanation-clause-ended g c =
    ended_wanted g.B.Book.meaning _ want.Explanation c.args.wanted (domain_view c.args.domain.now) (problem_view c.args.problem) _ _ _ c.in-Explanation.is
    c.respond_explanation.ensures.ended

pub returns-in-Tour-clause-ended : goal.returns-in-Tour-clause-ended
returns-in-Tour-clause-ended g c =
    ended_wanted g.B.Book.meaning _ (want.Tour c.in-Tour.number c.in-Tour.size c.in-Tour.hands) c.args.wanted (domain_view c.args.domain.now) (problem_view c.args.problem) _ _ _ c.in-Tour.is
    c.respond_tour.ensures.ended
