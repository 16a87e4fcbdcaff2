-- A director that placing stands on.
use Rattle.std.specs.Prelude.{◌≡◌, List, None}
use Rattle.plan_scores.specs.declared.plan_score.PlanScore.{PlanScore}
use Rattle.plan_facts.specs.Plan.{PlanView}
use Rattle.plan_moves.specs.declared.edit.Set.{Set}
use Rattle.plan_rules.specs.declared.rule.RuleDef.{RuleDef}
use Rattle.plan_rules.specs.Meaning.{Meaning}
use Rattle.plan_rules.specs.Totals.{whole_score}
use Rattle.score_director.specs.View.{DirectorView, attempted, kept}

-- these are the director's rules, and it has no attempt in course
pub record IsAtRest (rules : List RuleDef) (seen : DirectorView) : Type 0 where
  pub own : rules ≡ seen.rules
  pub rest : seen.base ≡ None

-- what a plan is worth under a director's rules and weights
abbrev pub score_under : Meaning → DirectorView → PlanView → PlanScore
score_under m seen plan = whole_score m seen.rules seen.weights plan

-- an edit was attempted and kept
abbrev pub played : DirectorView → List Set → DirectorView
played seen sets = kept (attempted seen sets)
