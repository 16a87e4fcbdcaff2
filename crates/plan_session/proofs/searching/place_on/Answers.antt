use Rattle.std.proofs.Common.{◌≡◌, sym}
use Rattle.score_director.specs.View.{at_rest}
use Rattle.plan_session.proofs.Placed.{placed_by}
use Rattle.plan_session.proofs.searching.place_on.Goals as goal

pub returns-clause-course : goal.returns-clause-course
returns-clause-course g c =
    let old = c.args.director.now in
    let rules = c.args.domain.now.rules in
    let was : old ≡ at_rest rules.defs old.weights old.plan =
    λ i. record { rules = sym c.requires.own i; weights = old.weights; plan = old.plan; base = c.requires.rest i } in
    placed_by g.B.Book.meaning rules.defs old.weights rules.harder old.plan old c.in_ok-course.course c.place_alone.new.director.plan
    c.in_ok-todo.todo c.as_slice.result.now c.is_decreasing-decreasing.result c.args.settings.now.construction
    was c.in_ok-course.ensures.course c.as_slice.ensures c.in_ok-todo.ensures.todo c.is_decreasing-decreasing.ensures
