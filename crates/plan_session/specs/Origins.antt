-- What a run begins with, as a search sees it.
use Rattle.plan_search.specs.Posed.{State}
use Rattle.plan_session.specs.declared.legs.Origin.{Origin}

-- the state that a run begins with
abbrev pub origin_state : Origin → State
origin_state origin = record { plan = origin.plan; names = origin.names; weights = origin.weights }
