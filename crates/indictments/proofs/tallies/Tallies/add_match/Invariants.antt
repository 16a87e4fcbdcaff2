use Rattle.std.proofs.Common.{◌≡◌, ℕ}
use Rattle.indictments.specs.Tallies.{counted_if, is_above, tally_in}
use Rattle.indictments.proofs.tallies.Tallies.add_match.Given as goal

-- the match is counted for the facts that stand in its row so far
abbrev pub invariant-loop-n : goal.invariant-loop-n
invariant-loop-n l = (class id : ℕ) → tally_in l.self class id ≡ counted_if (is_above class id l.one l.n) l.one.impact (tally_in l.initial.self class id)
