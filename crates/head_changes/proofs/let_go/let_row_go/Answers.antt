use Rattle.head_changes.proofs.Without.{without_dead, without_no_place, without_single}
use Rattle.head_changes.proofs.let_go.let_row_go.Goals as goal

pub returns-in_default-clause-now : goal.returns-in_default-clause-now
returns-in_default-clause-now c = without_no_place _ _ c.in_default.ensures

pub returns-in-Some-head-clause-now : goal.returns-in-Some-head-clause-now
returns-in-Some-head-clause-now c = without_single _ _ _ _ c.in-Some.ensures c.kill.ensures.now

pub returns-in-None-clause-now : goal.returns-in-None-clause-now
returns-in-None-clause-now c = without_dead _ _ _ c.in-Some.ensures c.in-None.ensures.lent
