use Rattle.std.proofs.Common.{◌∙◌, IfSome, Option, sym, subst, arith}
use Rattle.plan_moves.specs.declared.edit.Set.{Set}
use Rattle.std.proofs.Common.{List}
use Rattle.move_workers.specs.Judging.{LeadsTo}
use Rattle.plan_session.proofs.Played.{candidate_is, if_ok_four, won_went}
use Rattle.plan_session.proofs.steps.play.Goals as goal

pub returns-clause-went_on : goal.returns-clause-went_on
returns-clause-went_on g c =
    let number = c.in-Some.number in
    let worker = c.args.team.now.worker in
    let leads : LeadsTo worker.director.plan c.play.new.self.worker.director.plan c.in-Some-2.back =
    subst (λ (o : Option (List Set)). IfSome o (LeadsTo worker.director.plan c.play.new.self.worker.director.plan)) c.in-Some-2.is c.in_ok-back.ensures.takes_back in
    if_ok_four _ _ _ _ _ c.went.result c.went.ensures.is_best c.went.ensures.score c.went.ensures.back c.went.ensures.wins
    (λ is_best better score back more posed leg few plays at wins.
    won_went g.B.Book.meaning posed c.args.step leg number worker c.play.new.self.worker c.args.best.now c.went.new.self
    c.in-Some-2.back _ c.score.result is_best plays.means
    (candidate_is g.B.Book.meaning _ _ _ posed c.args.step number worker plays)
    at (sym c.in-Some.is ∙ wins) c.in_ok-back.ensures.ok.now leads c.score.ensures better score back more few (omega (arith, c.ranges.step.fits)))
