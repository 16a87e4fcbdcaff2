-- A director as contracts see it, and what its calls lead to.
use Rattle.std.specs.Prelude.{ℕ, List, Option, None, Some, option_map, slice_get, unwrap_or, if◌then◌else◌}
use Rattle.plan_facts.specs.Plan.{PlanView, records_of}
use Rattle.plan_scores.specs.declared.plan_score.PlanScore.{PlanScore}
use Rattle.plan_moves.specs.declared.edit.Set.{Set}
use Rattle.plan_moves.specs.Edits.{applied, is_doable}
use Rattle.plan_rules.specs.declared.row.Part.{Part}
use Rattle.plan_rules.specs.declared.rule.RuleDef.{RuleDef}
use Rattle.plan_rules.specs.Meaning.{Meaning}
use Rattle.plan_rules.specs.Rows.{rule_rows}
use Rattle.plan_rules.specs.Totals.{whole_score}

-- the rules that it was made with, the weight of each, its plan, and where an attempt is in course the plan before it
pub record DirectorView : Type 0 where
  pub rules : List RuleDef
  pub weights : List ℕ
  pub plan : PlanView
  pub base : Option PlanView

-- a director with no attempt in course
abbrev pub at_rest : List RuleDef → List ℕ → PlanView → DirectorView
at_rest rules weights plan = record { rules = rules; weights = weights; plan = plan; base = None }

-- what its plan is worth
abbrev pub score_seen : Meaning → DirectorView → PlanScore
score_seen m seen = whole_score m seen.rules seen.weights seen.plan

-- the rows at the end of a rule
abbrev pub rows_seen : Meaning → DirectorView → ℕ → Option (List (List Part))
rows_seen m seen rule = option_map (rule_rows m (records_of seen.plan)) (slice_get seen.rules rule)

-- an attempt at an edit is in course
abbrev pub attempted : DirectorView → List Set → DirectorView
attempted seen sets = record seen { plan = applied seen.plan sets; base = Some seen.plan }

-- the attempt is taken back
abbrev pub undone : DirectorView → DirectorView
undone seen = record seen { plan = unwrap_or seen.base seen.plan; base = None }

-- the attempt is kept
abbrev pub kept : DirectorView → DirectorView
kept seen = record seen { base = None }

-- what the plan is worth after an edit, where that is doable
abbrev pub judged : Meaning → DirectorView → List Set → Option PlanScore
judged m seen sets = if is_doable seen.plan sets then Some (score_seen m (attempted seen sets)) else None
