-- How great scores are.
use Rattle.std.specs.Prelude.{◌+◌, ◌*◌, ◌≤◌, ℕ, List, sum_by, unsigned_abs}
use Rattle.plan_scores.specs.declared.score.Score.{Score}
use Rattle.plan_rules.specs.declared.row.Match.{Match}
use Rattle.plan_rules.specs.declared.rule.RuleDef.{RuleDef}
use Rattle.plan_rules.specs.Range.{Capped, cap_of, rule_bound}

-- the three numbers of a score without their signs, added up
abbrev pub score_size : Score → ℕ
score_size s = unsigned_abs s.hard + unsigned_abs s.medium + unsigned_abs s.soft

-- the sizes of some matches' impacts, added up
abbrev pub impact_sizes : List Match → ℕ
impact_sizes matches = sum_by (λ one. score_size one.impact) matches

-- the impacts add up to so much at most
abbrev pub AreWithin : ℕ → List Match → Type 0
AreWithin most matches = impact_sizes matches ≤ most

-- the sizes of all rules' impacts, added up
abbrev pub all_sizes : List (List Match) → ℕ
all_sizes matches = sum_by impact_sizes matches

-- the impacts of all rules add up to so much at most
abbrev pub AreAllWithin : ℕ → List (List Match) → Type 0
AreAllWithin most matches = all_sizes matches ≤ most

-- as much as a row of a rule can add up to under a weight, where the weighers have these caps
abbrev pub row_size : List Capped → RuleDef → ℕ → ℕ
row_size weighers rule weight = weight * cap_of weighers rule

-- as much as a rule can add up to under a weight, where the classes have these sizes
abbrev pub rule_size : List ℕ → List Capped → RuleDef → ℕ → ℕ
rule_size sizes weighers rule weight = rule_bound sizes rule * weight * cap_of weighers rule
