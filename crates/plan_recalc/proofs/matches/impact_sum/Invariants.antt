use Rattle.std.proofs.Common.{◌≡◌, take}
use Rattle.plan_rules.specs.Totals.{impact_sum}
use Rattle.plan_recalc.proofs.matches.impact_sum.Given as goal

-- the sum so far
abbrev pub invariant-loop-one : goal.invariant-loop-one
invariant-loop-one l = l.sum ≡ impact_sum (take l.one-index l.matches)
