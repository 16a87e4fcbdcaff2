use Rattle.std.proofs.Common.{◌∙◌}
use Rattle.plan_session.proofs.EndingLaws.{Ended-weaker}
use Rattle.plan_session.proofs.answer.respond_tour.Goals as goal

pub returns-in-Ok-clause-ended : goal.returns-in-Ok-clause-ended
returns-in-Ok-clause-ended g c =
    Ended-weaker _ _ _ _ _ (λ s text is. (is.0, is.1 ∙ c.deref.ensures.value ∙ c.in-Ok.ensures)) c.say.ensures.ended
