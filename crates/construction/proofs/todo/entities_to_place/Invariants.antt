use Rattle.std.proofs.Common.{◌≡◌}
use Rattle.plan_search.proofs.ClassByClass.{listed_below}
use Rattle.construction.proofs.TodoLaws.{waiting_in}
use Rattle.construction.proofs.todo.entities_to_place.Given as goal

-- what is to be placed of the classes so far
abbrev pub invariant-loop-class : goal.invariant-loop-class
invariant-loop-class l = l.todo ≡ listed_below (waiting_in l.plan) l.plan l.class
