use Rattle.std.proofs.Common.{◌≡◌, ◌∙◌, ◌++◌, length, map, not, sym, ap, arith}
use Rattle.std.specs.Prelude.{filter}
use Rattle.plan_moves.specs.Entities.{touch_of}
use Rattle.plan_search.specs.Todo.{is_waiting}
use Rattle.plan_search.proofs.ClassByClass.{entity_class-is, listed_below-all, listed_below-none, listed_below-some}
use Rattle.construction.proofs.TodoLaws.{entities_to_place-by_class, waiting_in}
use Rattle.construction.proofs.todo.entities_to_place.Goals as goal
use Rattle.construction.proofs.todo.entities_to_place.Goals.{then-not-is_empty+in_ok-push_waiting, else-not-is_empty}

pub loop-class-preserved : goal.loop-class-preserved
loop-class-preserved c =
    let plan = c.args.plan.now in
    let k = c.loop-class.class in
    let is = entity_class-is plan k _ _ c.ranges-in-loop-class.ensures.ranges c.is_empty.ensures in
    elim c.if-not-is_empty.branch [
      | then-not-is_empty+in_ok-push_waiting w ↦
          w.todo-is ∙ w.in_ok-push_waiting.ensures
          ∙ ap (λ facts. c.loop-class.todo ++ map (touch_of k) (filter is_waiting facts)) w.facts.ensures.facts
          ∙ ap (λ todo. todo ++ waiting_in plan k) c.loop-class.invariant
          ∙ sym (listed_below-some (waiting_in plan) plan k (is ∙ ap not w.if-not-is_empty.true))
      | else-not-is_empty w ↦
          w.todo-is ∙ c.loop-class.invariant ∙ sym (listed_below-none (waiting_in plan) plan k (is ∙ ap not w.if-not-is_empty.false))
    ]

pub returns-clause-todo : goal.returns-clause-todo
returns-clause-todo c =
    let plan = c.args.plan.now in
    let all : c.loop-class.class ≡ length plan.classes = omega (arith, c.classes-class-end.ensures.classes) in
    c.loop-class.invariant ∙ listed_below-all (waiting_in plan) plan c.loop-class.class all
    ∙ entities_to_place-by_class plan c.classes-class-end.ensures.sound
