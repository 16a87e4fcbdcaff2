use Rattle.std.proofs.Common.{◌≡◌, take}
use Rattle.plan_search.specs.Placing.{null_places}
use Rattle.construction.proofs.best.nulls_of.Given as goal

-- the null places so far
abbrev pub invariant-loop-place : goal.invariant-loop-place
invariant-loop-place l = l.vars ≡ null_places (take l.place l.raw.values)
