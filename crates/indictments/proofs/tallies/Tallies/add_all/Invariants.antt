use Rattle.std.proofs.Common.{◌++◌, List, take}
use Rattle.plan_rules.specs.declared.row.Match.{Match}
use Rattle.indictments.specs.Tallies.{AreTallies}
use Rattle.indictments.proofs.tallies.Tallies.add_all.Given as goal

-- the matches so far are counted
abbrev pub invariant-loop-one : goal.invariant-loop-one
invariant-loop-one l = (before : List Match) → AreTallies l.initial.self before → AreTallies l.self (before ++ take l.one-index l.matches)
