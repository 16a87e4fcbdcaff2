use Rattle.plan_session.proofs.generate.answer_unread.Goals as goal

pub returns-in-Tour-clause-ended : goal.returns-in-Tour-clause-ended
returns-in-Tour-clause-ended g c = rw c.in-Tour.is c.tour.ensures.ended
