use Rattle.std.proofs.Common.{◌≡◌, ◌+◌, ◌≤◌, map, take}
use Rattle.plan_search.specs.Todo.{entity_difficulty}
use Rattle.construction.specs.Order.{ranked}
use Rattle.construction.proofs.order.ranks_of.Given as goal

-- the entities so far have their difficulties, and one closure at most was called for each
abbrev pub invariant-loop-entity : goal.invariant-loop-entity
invariant-loop-entity g l = record {
  ranks : l.ranks.items ≡ map (ranked (entity_difficulty g.B.Book.meaning l.rules.harder l.plan)) (take l.entity-index l.entities);
  cost : l.steps ≤ l.initial.steps + l.entity-index;
}
