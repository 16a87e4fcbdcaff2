use Rattle.std.proofs.Common.{◌≡◌, ℕ, ◌<◌, slice_get}
use Rattle.plan_facts.proofs.record.same_planned.Given as goal

-- the places so far have the same values
abbrev pub invariant-loop-place : goal.invariant-loop-place
invariant-loop-place l = (k : ℕ) → k < l.place → slice_get l.one k ≡ slice_get l.other k
