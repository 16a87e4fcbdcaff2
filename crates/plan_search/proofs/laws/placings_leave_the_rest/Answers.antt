use Rattle.plan_search.proofs.Awaiting.{to_place_waits, todo_awaits}
use Rattle.plan_search.proofs.RestLaws.{idle_edits_leave_the_plan, rest_awaits}
use Rattle.plan_search.proofs.laws.placings_leave_the_rest.Goals as goal

pub returns : goal.returns
returns c = record { waits = to_place_waits; todo = todo_awaits; rest = rest_awaits; idle = idle_edits_leave_the_plan }
