use Rattle.std.proofs.Common.{◌≡◌, ◌++◌, length}
use Rattle.std.specs.Prelude.{reverse}
use Rattle.score_director.proofs.totals.items_of.Given as goal

-- the rows that are left, and then those that were taken, the last one first
abbrev pub invariant-loop-row : goal.invariant-loop-row
invariant-loop-row l = l.initial.rows ≡ l.rows ++ reverse l.items.items

abbrev pub decreases-loop-row : goal.decreases-loop-row
decreases-loop-row l = length l.rows
