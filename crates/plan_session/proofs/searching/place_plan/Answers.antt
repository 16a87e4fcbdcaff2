use Rattle.std.proofs.Common.{◌∙◌, ap, subst, sym}
use Rattle.plan_rules.specs.Range.{MayJudge, sizes_of}
use Rattle.plan_rules.specs.Totals.{whole_score}
use Rattle.plan_search.specs.Placing.{placing_of}
use Rattle.plan_search.specs.Posed.{is_decreasing}
use Rattle.plan_search.specs.Todo.{todo_by}
use Rattle.score_director.specs.View.{DirectorView, at_rest}
use Rattle.plan_session.proofs.searching.place_plan.Goals as goal

pub place_on-requires-clause-judges : goal.place_on-requires-clause-judges
place_on-requires-clause-judges g c κs within =
    let rules = c.args.domain.now.rules in (
      c.requires.judges.0,
      subst (λ (d : DirectorView). MayJudge rules.defs rules.caps d.weights (sizes_of d.plan)) (sym c.in_ok-director.ensures) c.requires.judges.1,
    )

pub place_on-requires-clause-own : goal.place_on-requires-clause-own
place_on-requires-clause-own g c κs within = sym (ap (λ (d : DirectorView). d.rules) c.in_ok-director.ensures)

pub place_on-requires-clause-rest : goal.place_on-requires-clause-rest
place_on-requires-clause-rest g c κs within = ap (λ (d : DirectorView). d.base) c.in_ok-director.ensures

pub returns : goal.returns
returns g c =
    let was = c.in_ok-director.ensures in
    let new = c.place_on.new.director in
    let rules = c.args.domain.now.rules in
    record {
      rest = c.in_ok-course.ensures.rest ∙ ap (λ (d : DirectorView). at_rest rules.defs d.weights new.plan) was;
      course = c.in_ok-course.ensures.course
          ∙ (λ i. placing_of (whole_score g.B.Book.meaning rules.defs (was i).weights) (was i).plan
          (todo_by g.B.Book.meaning rules.harder (is_decreasing c.args.settings.now.construction) (was i).plan));
      sizes = c.place_on.ensures.sizes ∙ ap (λ (d : DirectorView). sizes_of d.plan) was;
    }
