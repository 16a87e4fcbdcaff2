use Rattle.std.proofs.Common.{◌≡◌, take, fold}
use Rattle.std.specs.Int.{int_min}
use Rattle.plan_recalc.proofs.collect.least_of.Given as goal

-- the least one so far
abbrev pub invariant-loop-number : goal.invariant-loop-number
invariant-loop-number l = l.least ≡ fold int_min l.initial.least (take l.number-index l.rest)
