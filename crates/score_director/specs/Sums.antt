-- What rules make of the sums of their match weights.
use Rattle.std.specs.Prelude.{◌≡◌, ◌≤◌, ◌+◌, ◌*◌, ℕ, List, map, sum_by, zip, drop}
use Rattle.plan_scores.specs.declared.score.Score.{Score}
use Rattle.plan_scores.specs.Sum.{IsWithin, add_scores, score_at, sum_of}
use Rattle.plan_rules.specs.declared.rule.RuleDef.{RuleDef}
use Rattle.plan_rules.specs.Limits.{score_limit}
use Rattle.plan_rules.specs.Meaning.{Meaning}
use Rattle.plan_rules.specs.Rows.{Facts}
use Rattle.plan_rules.specs.Totals.{score_of, signed}
use Rattle.score_director.specs.Net.{weights_of}

-- a rule with its weight and what its match weights add up to
pub record Totaled : Type 0 where
  pub rule : RuleDef
  pub weight : ℕ
  pub total : ℕ

-- each rule with its weight and total
abbrev pub totaled : List RuleDef → List ℕ → List ℕ → List Totaled
totaled rules weights totals =
    map (λ one. record { rule = one.0; weight = one.1.0; total = one.1.1 }) (zip rules (zip weights totals))

-- those of the rules from a place on
abbrev pub totaled_from : List RuleDef → List ℕ → List ℕ → ℕ → List Totaled
totaled_from rules weights totals place = totaled (drop place rules) (drop place weights) (drop place totals)

-- how much a rule adds up to, whatever its sign
abbrev pub size_of_total : Totaled → ℕ
size_of_total one = one.weight * one.total

-- what a rule adds to the score
abbrev pub impact_of_total : Totaled → Score
impact_of_total one = score_at one.rule.level (signed one.rule (size_of_total one))

-- how much rules add up to, whatever their signs
abbrev pub sizes_of_totals : List Totaled → ℕ
sizes_of_totals ones = sum_by size_of_total ones

-- what rules add up to
abbrev pub sum_of_totals : List Totaled → Score
sum_of_totals ones = sum_of (map impact_of_total ones)

-- the score so far leaves room for the rules to come, and with them it is the whole
pub record SumsUpTo (whole : Score) (rest : List Totaled) (score : Score) : Type 0 where
  pub most : ℕ
  pub within : IsWithin most score
  pub few : most + sizes_of_totals rest ≤ score_limit
  pub sum : add_scores score (sum_of_totals rest) ≡ whole

-- the score is that of any facts among which the matches of the rules weigh so much
abbrev pub IsScoreOfTotals : List RuleDef → List ℕ → List ℕ → Score → Type 0
IsScoreOfTotals rules weights totals score =
    (m : Meaning) (facts : Facts) → totals ≡ weights_of m facts rules → score ≡ score_of m facts rules weights
