-- What the rules make of a plan: matches, impacts, and the score as their sum.
use Rattle.std.specs.Prelude.{ℕ, ℤ, pos, neg_ℤ, ◌*◌, List, map, flat_map, zip, if◌then◌else◌}
use Rattle.std.specs.Option.{option_map_or}
use Rattle.plan_facts.specs.Plan.{PlanView, records_of, unplaced_of}
use Rattle.plan_scores.specs.declared.plan_score.PlanScore.{PlanScore}
use Rattle.plan_scores.specs.declared.score.Score.{Score}
use Rattle.plan_scores.specs.Sum.{score_at, sum_of}
use Rattle.plan_rules.specs.declared.row.Part.{Part}
use Rattle.plan_rules.specs.declared.rule.RuleDef.{RuleDef}
use Rattle.plan_rules.specs.declared.row.Match.{Match}
use Rattle.plan_rules.specs.Meaning.{Meaning}
use Rattle.plan_rules.specs.Rows.{Facts, rule_rows}

-- the match weight of a row: its weigher's, or 1 where the rule has none
abbrev pub match_weight : Meaning → RuleDef → List Part → ℕ
match_weight m rule row = option_map_or (λ number. m.weight_of number row) rule.weigh 1

-- a number, negative where the rule penalizes
abbrev pub signed : RuleDef → ℕ → ℤ
signed rule n = if rule.reward then pos n else neg_ℤ (pos n)

-- the impact of a row: the rule's weight times its match weight, at the rule's level
abbrev pub impact_of : Meaning → RuleDef → ℕ → List Part → Score
impact_of m rule weight row = score_at rule.level (signed rule (weight * match_weight m rule row))

-- the matches of a rule: its rows, each with its impact
abbrev pub matches_of : Meaning → Facts → RuleDef → ℕ → List Match
matches_of m facts rule weight =
    map (λ row. record { row = row; impact = impact_of m rule weight row }) (rule_rows m facts rule)

-- the matches of all rules, under the weights
abbrev pub all_matches : Meaning → Facts → List RuleDef → List ℕ → List (List Match)
all_matches m facts rules weights =
    map (λ pair. matches_of m facts pair.0 pair.1) (zip rules weights)

-- the impacts of some matches
abbrev pub impacts_of : List Match → List Score
impacts_of matches = map (λ one. one.impact) matches

-- the sum of some matches' impacts
abbrev pub impact_sum : List Match → Score
impact_sum matches = sum_of (impacts_of matches)

-- the score of some facts: the sum of all impacts of all rules
unfoldable pub score_of : Meaning → Facts → List RuleDef → List ℕ → Score
score_of m facts rules weights = sum_of (flat_map impacts_of (all_matches m facts rules weights))

-- the score of a plan under rules and weights, with how many null variables it has that count
abbrev pub whole_score : Meaning → List RuleDef → List ℕ → PlanView → PlanScore
whole_score m rules weights plan =
    record { unplaced = unplaced_of plan; score = score_of m (records_of plan) rules weights }
