use Rattle.std.proofs.Common.{◌≡◌, ◌++◌, map, take}
use Rattle.std.specs.Prelude.{filter}
use Rattle.plan_moves.specs.Entities.{touch_of}
use Rattle.plan_search.specs.Todo.{is_waiting}
use Rattle.construction.proofs.todo.push_waiting.Given as goal

-- the entities so far that are to be placed
abbrev pub invariant-loop-raw : goal.invariant-loop-raw
invariant-loop-raw l = l.todo ≡ l.initial.todo ++ map (touch_of l.class) (filter is_waiting (take l.raw-index l.facts))
