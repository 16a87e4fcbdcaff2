-- The way back from a plan to the best one of a leg.
use Rattle.std.specs.Prelude.{◌≡◌, List, [], ◌∷◌}
use Rattle.plan_facts.specs.Plan.{PlanView}
use Rattle.plan_moves.specs.declared.edit.Set.{Set}
use Rattle.move_workers.specs.Judging.{LeadsTo}

-- edits lead back to the best plan: the first one to that, each further one to where the one before leads from, the last one from
-- the plan as it is
abbrev pub IsWayBack : PlanView → List (List Set) → PlanView → Type 0
IsWayBack best [] plan = plan ≡ best
IsWayBack best (back ∷ rest) plan = (next : PlanView) × LeadsTo best next back × IsWayBack next rest plan
