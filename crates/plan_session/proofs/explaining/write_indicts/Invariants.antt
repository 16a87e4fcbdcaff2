use Rattle.std.proofs.Common.{◌≡◌, ◌++◌, List}
use Rattle.plan_rules.specs.declared.row.Match.{Match}
use Rattle.plan_reports.specs.Lines.{lines_text}
use Rattle.indictments.specs.Tallies.{AreTallies}
use Rattle.plan_session.proofs.Explained.{facts_below, lines_among}
use Rattle.plan_session.proofs.explaining.write_indicts.Given as goal

-- the facts of the classes so far are written
abbrev pub invariant-loop-class : goal.invariant-loop-class
invariant-loop-class l = (matches : List Match) → AreTallies l.tallies matches
    → l.out.items ≡ l.initial.out.items ++ lines_text l.report.schema.now l.report.rules.now (lines_among matches (facts_below l.plan l.class))
