use Rattle.head_changes.proofs.Back.{entered_back}
use Rattle.head_changes.proofs.gathering.enter_if.Goals as goal

pub returns-in-Some-clause-back : goal.returns-in-Some-clause-back
returns-in-Some-clause-back c = entered_back c.enter.result _ _ _ _ _ c.enter.ensures.ok c.enter.ensures.err c.enter.ensures.come
