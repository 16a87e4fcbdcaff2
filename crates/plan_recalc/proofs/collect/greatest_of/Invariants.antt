use Rattle.std.proofs.Common.{◌≡◌, take, fold}
use Rattle.std.specs.Int.{int_max}
use Rattle.plan_recalc.proofs.collect.greatest_of.Given as goal

-- the greatest one so far
abbrev pub invariant-loop-number : goal.invariant-loop-number
invariant-loop-number l = l.greatest ≡ fold int_max l.initial.greatest (take l.number-index l.rest)
