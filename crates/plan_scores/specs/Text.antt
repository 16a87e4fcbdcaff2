-- The text of a score, and of a plan's score.
use Rattle.std.specs.Prelude.{ℕ, List, [], ◌++◌, codes, decimal, if◌then◌else◌, ◌==◌}
use Rattle.std.specs.Fmt.{signed_decimal}
use Rattle.plan_scores.specs.declared.score.Score.{Score}
use Rattle.plan_scores.specs.declared.plan_score.PlanScore.{PlanScore}

-- three whole numbers, as in -1hard/0medium/5soft
abbrev pub score_text : Score → List ℕ
score_text s =
    signed_decimal s.hard ++ codes "hard/" ++ signed_decimal s.medium ++ codes "medium/"
    ++ signed_decimal s.soft ++ codes "soft"

-- how many variables are null that may not stay so, as in -2init/, and nothing where none is
abbrev pub unplaced_text : ℕ → List ℕ
unplaced_text n = if n == 0 then [] else codes "-" ++ decimal n ++ codes "init/"

-- the null variables, then the score
abbrev pub plan_score_text : PlanScore → List ℕ
plan_score_text p = unplaced_text p.unplaced ++ score_text p.score
