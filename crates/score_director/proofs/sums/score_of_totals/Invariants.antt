use Rattle.std.proofs.Common.{◌≤◌}
use Rattle.plan_rules.specs.Limits.{score_limit}
use Rattle.score_director.specs.Sums.{SumsUpTo, sizes_of_totals, sum_of_totals, totaled, totaled_from}
use Rattle.score_director.proofs.Totaled.{LeavesRoom}
use Rattle.score_director.proofs.sums.score_of_totals.Given as goal

-- what is left is the greatest sum without the rules so far; and where the totals are small, the score so far and the rules
-- to come make up the whole
abbrev pub invariant-loop-place : goal.invariant-loop-place
invariant-loop-place l =
    LeavesRoom l.rules l.weights l.totals l.place l.room
    × (sizes_of_totals (totaled l.rules l.weights l.totals) ≤ score_limit
    → SumsUpTo (sum_of_totals (totaled l.rules l.weights l.totals)) (totaled_from l.rules l.weights l.totals l.place) l.score)
