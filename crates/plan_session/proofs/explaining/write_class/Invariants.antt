use Rattle.std.proofs.Common.{◌≡◌, ◌++◌, List, map, take}
use Rattle.plan_rules.specs.declared.row.Match.{Match}
use Rattle.plan_reports.specs.Lines.{lines_text}
use Rattle.indictments.specs.Indicts.{named}
use Rattle.indictments.specs.Tallies.{AreTallies}
use Rattle.plan_session.proofs.Explained.{lines_among}
use Rattle.plan_session.proofs.explaining.write_class.Given as goal

-- the facts of the class so far are written
abbrev pub invariant-loop-raw : goal.invariant-loop-raw
invariant-loop-raw l = (matches : List Match) → AreTallies l.tallies matches
    → l.out.items ≡ l.initial.out.items ++ lines_text l.report.schema.now l.report.rules.now (lines_among matches (map (named l.class) (take l.raw-index l.facts)))
