use Rattle.std.proofs.Common.{◌≡◌, ◌++◌, length}
use Rattle.std.specs.Prelude.{reverse}
use Rattle.plan_recalc.proofs.facts.singles_of.Given as goal

-- the records that are left, and then those that were taken, the last one first
abbrev pub invariant-loop-record : goal.invariant-loop-record
invariant-loop-record l = l.initial.records ≡ l.records ++ reverse l.singles

abbrev pub decreases-loop-record : goal.decreases-loop-record
decreases-loop-record l = length l.records
