use Rattle.std.proofs.Common.{◌∙◌, ap, subst, sym}
use Rattle.plan_facts.specs.Plan.{IsPlan}
use Rattle.plan_search.specs.InOrder.{in_order}
use Rattle.plan_search.specs.Todo.{entities_to_place, entity_difficulty, harder_first, todo_by}
use Rattle.plan_search.specs.TodoLaws.{AwaitPlacing}
use Rattle.plan_search.proofs.Awaiting.{todo_awaits}
use Rattle.construction.proofs.Ranks.{todo_by-first, todo_by-harder}
use Rattle.construction.proofs.order.placing_order.Goals as goal

pub returns-then-not-decreasing-clause-todo : goal.returns-then-not-decreasing-clause-todo
returns-then-not-decreasing-clause-todo g c =
    c.in_ok-entities.ensures.todo ∙ ap entities_to_place c.plan-plan.ensures ∙ todo_by-first g.B.Book.meaning c.args.rules.now.harder c.args.decreasing c.args.director.now.plan c.if-not-decreasing.true

pub returns-then-not-decreasing-clause-awaits : goal.returns-then-not-decreasing-clause-awaits
returns-then-not-decreasing-clause-awaits g c =
    let plan = c.args.director.now.plan in
    let is = c.in_ok-entities.ensures.todo ∙ ap entities_to_place c.plan-plan.ensures ∙ todo_by-first g.B.Book.meaning c.args.rules.now.harder c.args.decreasing plan c.if-not-decreasing.true in
    subst (AwaitPlacing plan) (sym is) (todo_awaits g.B.Book.meaning c.args.rules.now.harder c.args.decreasing plan (subst IsPlan c.plan-plan.ensures c.in_ok-entities.ensures.sound))

pub returns-clause-todo : goal.returns-clause-todo
returns-clause-todo g c =
    let difficulty = entity_difficulty g.B.Book.meaning c.args.rules.now.harder c.plan-plan.result.now in
    c.in_ok-harder_first.ensures.order ∙ ap (in_order (harder_first difficulty)) (c.as_slice.ensures ∙ c.in_ok-entities.ensures.todo)
    ∙ todo_by-harder g.B.Book.meaning c.args.rules.now.harder c.args.decreasing c.plan-plan.result.now c.if-not-decreasing.false
    ∙ ap (todo_by g.B.Book.meaning c.args.rules.now.harder c.args.decreasing) c.plan-plan.ensures

pub returns-clause-awaits : goal.returns-clause-awaits
returns-clause-awaits g c =
    let plan = c.args.director.now.plan in
    let difficulty = entity_difficulty g.B.Book.meaning c.args.rules.now.harder c.plan-plan.result.now in
    let is = c.in_ok-harder_first.ensures.order ∙ ap (in_order (harder_first difficulty)) (c.as_slice.ensures ∙ c.in_ok-entities.ensures.todo)
    ∙ todo_by-harder g.B.Book.meaning c.args.rules.now.harder c.args.decreasing c.plan-plan.result.now c.if-not-decreasing.false
    ∙ ap (todo_by g.B.Book.meaning c.args.rules.now.harder c.args.decreasing) c.plan-plan.ensures in
    subst (AwaitPlacing plan) (sym is) (todo_awaits g.B.Book.meaning c.args.rules.now.harder c.args.decreasing plan (subst IsPlan c.plan-plan.ensures c.in_ok-entities.ensures.sound))
