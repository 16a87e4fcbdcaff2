-- The rows and the matches of a plan, and the match of a row.
use Rattle.std.specs.Prelude.{ℕ, List, map}
use Rattle.plan_facts.specs.Plan.{PlanView, records_of}
use Rattle.plan_rules.specs.declared.row.Match.{Match}
use Rattle.plan_rules.specs.declared.row.Part.{Part}
use Rattle.plan_rules.specs.declared.rule.RuleDef.{RuleDef}
use Rattle.plan_rules.specs.Meaning.{Meaning}
use Rattle.plan_rules.specs.Rows.{rule_rows}
use Rattle.plan_rules.specs.Totals.{all_matches, impact_of}

-- the matches of each rule in a plan, under the weights
abbrev pub whole_matches : Meaning → List RuleDef → List ℕ → PlanView → List (List Match)
whole_matches m rules weights plan = all_matches m (records_of plan) rules weights

-- the rows at the end of each rule in a plan
abbrev pub whole_rows : Meaning → List RuleDef → PlanView → List (List (List Part))
whole_rows m rules plan = map (rule_rows m (records_of plan)) rules

-- a row at a rule's end with its impact
abbrev pub match_of : Meaning → RuleDef → ℕ → List Part → Match
match_of m rule weight row = record { row = row; impact = impact_of m rule weight row }
