use Rattle.std.proofs.Common.{take}
use Rattle.indictments.specs.Indicts.{all_of}
use Rattle.indictments.specs.Tallies.{AreTallies}
use Rattle.indictments.proofs.tallies.Tallies.of.Given as goal

-- the matches of the rules so far are counted
abbrev pub invariant-loop-of_rule : goal.invariant-loop-of_rule
invariant-loop-of_rule l = AreTallies l.tallies (all_of (take l.of_rule-index l.matches))
