-- What the placing of a plan leaves.
use Rattle.std.proofs.Common.{◌≡◌, ◌∙◌, ℕ, Bool, List, ap}
use Rattle.plan_facts.specs.Plan.{PlanView}
use Rattle.plan_moves.specs.declared.edit.Touch.{Touch}
use Rattle.plan_settings.specs.declared.setting.Construction.{Construction}
use Rattle.plan_rules.specs.declared.rule.Harder.{Harder}
use Rattle.plan_rules.specs.declared.rule.RuleDef.{RuleDef}
use Rattle.plan_rules.specs.Meaning.{Meaning}
use Rattle.plan_rules.specs.Totals.{whole_score}
use Rattle.score_director.specs.View.{DirectorView, at_rest}
use Rattle.plan_search.specs.Placing.{placing_of}
use Rattle.plan_search.specs.Posed.{is_decreasing}
use Rattle.plan_search.specs.Todo.{todo_by}
use Rattle.construction.specs.declared.next.Course.{Course}
use Rattle.construction.specs.Placed.{course_of}
use Rattle.construction.specs.Standing.{score_under}

-- a director that a placing left is at rest under the same rules and weights
pub left_at_rest : (rules : List RuleDef) (weights : List ℕ) (plan : PlanView) (old new : DirectorView)
    → old ≡ at_rest rules weights plan → new ≡ at_rest old.rules old.weights new.plan → new ≡ at_rest rules weights new.plan
left_at_rest rules weights plan old new was is = is ∙ (λ i. at_rest (was i).rules (was i).weights new.plan)

-- what a director at rest is asked to place is placed
pub placed_by : (m : Meaning) (rules : List RuleDef) (weights : List ℕ) (harder : List Harder) (plan : PlanView) (old : DirectorView)
    (course : Course) (placed : PlanView) (todo slice : List Touch) (decreasing : Bool) (construction : Construction)
    → old ≡ at_rest rules weights plan
    → course_of course placed ≡ placing_of (score_under m old) old.plan slice → slice ≡ todo
    → todo ≡ todo_by m harder decreasing old.plan → decreasing ≡ is_decreasing construction
    → course_of course placed ≡ placing_of (whole_score m rules weights) plan (todo_by m harder (is_decreasing construction) plan)
placed_by m rules weights harder plan old course placed todo slice decreasing construction was is lent todo_is decreasing_is =
    is ∙ ap (placing_of (score_under m old) old.plan) (lent ∙ todo_is)
    ∙ (λ i. placing_of (whole_score m (was i).rules (was i).weights) (was i).plan (todo_by m harder (decreasing_is i) (was i).plan))
