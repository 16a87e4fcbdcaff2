-- What the rules from a place on make of some facts, and as much as they can add up to.
use Rattle.std.specs.Prelude.{◌≡◌, ◌+◌, ◌≤◌, ◌++◌, ℕ, List, drop, length, map}
use Rattle.plan_scores.specs.declared.score.Score.{Score}
use Rattle.plan_scores.specs.Sum.{IsWithin, add_scores}
use Rattle.plan_rules.specs.declared.row.Match.{Match}
use Rattle.plan_rules.specs.declared.rule.RuleDef.{RuleDef}
use Rattle.plan_rules.specs.Limits.{score_limit}
use Rattle.plan_rules.specs.Meaning.{Meaning}
use Rattle.plan_rules.specs.Range.{score_bound, weighed}
use Rattle.plan_rules.specs.Rows.{Facts}
use Rattle.plan_rules.specs.Totals.{all_matches, impact_sum, score_of}
use Rattle.plan_recalc.specs.Size.{all_sizes}

-- their matches
abbrev pub matches_from : Meaning → Facts → List RuleDef → List ℕ → ℕ → List (List Match)
matches_from m facts rules weights place = all_matches m facts (drop place rules) (drop place weights)

-- their score
abbrev pub score_from : Meaning → Facts → List RuleDef → List ℕ → ℕ → Score
score_from m facts rules weights place = score_of m facts (drop place rules) (drop place weights)

-- as much as they can add up to where the classes have these sizes
abbrev pub bound_from : List RuleDef → List ℕ → List ℕ → List ℕ → ℕ → ℕ
bound_from rules caps weights sizes place =
    score_bound sizes (weighed (drop place rules) (drop place weights) (drop place caps))

-- a score that may grow by so much and stays within the limit
pub record LeavesRoom (bound : ℕ) (score : Score) : Type 0 where
  pub most : ℕ
  pub within : IsWithin most score
  pub few : most + bound ≤ score_limit

-- what the rules before a place make of some facts: together with what those from the place on do, that is all, and there is
-- room for what these can add up to
pub record AreTotals (m : Meaning) (facts : Facts) (rules : List RuleDef) (caps weights sizes : List ℕ) (place : ℕ)
    (found : List (List Match)) (sums : List Score) (total : Score) : Type 0 where
  pub count : length found ≡ place
  pub matches : all_matches m facts rules weights ≡ found ++ matches_from m facts rules weights place
  pub score : score_of m facts rules weights ≡ add_scores total (score_from m facts rules weights place)
  pub room : LeavesRoom (bound_from rules caps weights sizes place) total
  pub small : all_sizes found + bound_from rules caps weights sizes place ≤ score_limit
  pub impacts : sums ≡ map impact_sum found
