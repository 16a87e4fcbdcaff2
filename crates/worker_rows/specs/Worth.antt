-- What tests expect plans to be worth.
use Rattle.std.specs.Prelude.{ℤ, pos}
use Rattle.plan_scores.specs.declared.plan_score.PlanScore.{PlanScore}

-- nothing is unplaced, and all there is stands at the hard level
abbrev pub worth : ℤ → PlanScore
worth hard = record { unplaced = 0; score = record { hard = hard; medium = pos 0; soft = pos 0 } }
