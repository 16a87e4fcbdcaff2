use Rattle.std.proofs.Common.{◌≡◌, ◌*◌, map, length}
use Rattle.plan_rules.specs.Closures.{capped}
use Rattle.plan_recalc.specs.Size.{AreWithin, row_size}
use Rattle.plan_recalc.specs.Totals.{match_of}
use Rattle.plan_recalc.proofs.matches.matches_of.Given as goal

-- the matches so far
abbrev pub invariant-loop-row : goal.invariant-loop-row
invariant-loop-row g l = record {
  matches : l.matches ≡ map (match_of g.B.Book.meaning l.rule l.weight) l.yielded;
  size : AreWithin (length l.yielded * row_size (capped l.rules.weighs) l.rule l.weight) l.matches;
}
