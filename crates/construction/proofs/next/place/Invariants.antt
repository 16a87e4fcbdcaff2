use Rattle.std.proofs.Common.{◌≡◌, drop}
use Rattle.plan_rules.specs.Range.{sizes_of}
use Rattle.plan_search.specs.Placing.{placing_of}
use Rattle.plan_search.specs.TodoLaws.{AwaitPlacing}
use Rattle.score_director.specs.View.{at_rest}
use Rattle.construction.specs.Placed.{PlacesFirst}
use Rattle.construction.specs.Standing.{score_under}
use Rattle.construction.proofs.PlacingLaws.{with_front}
use Rattle.construction.proofs.next.place.Given as goal

-- what was placed, and the placing of the rest, are the whole placing; the rest may be placed, by a director at rest
abbrev pub invariant-loop-entity : goal.invariant-loop-entity
invariant-loop-entity g l = record {
  course : with_front l.placed (placing_of (score_under g.B.Book.meaning l.fn.director) l.director.plan (drop l.entity-index l.todo)) ≡ placing_of (score_under g.B.Book.meaning l.fn.director) l.fn.director.plan l.todo;
  front : PlacesFirst (score_under g.B.Book.meaning l.fn.director) l.fn.director.plan l.todo l.entity-index l.director.plan;
  awaits : AwaitPlacing l.director.plan (drop l.entity-index l.todo);
  rest : l.director ≡ at_rest l.fn.director.rules l.fn.director.weights l.director.plan;
  sizes : sizes_of l.director.plan ≡ sizes_of l.fn.director.plan;
}
