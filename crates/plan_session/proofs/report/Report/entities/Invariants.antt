use Rattle.std.proofs.Common.{◌≡◌, ◌++◌}
use Rattle.plan_reports.specs.Lines.{lines_text}
use Rattle.plan_search.proofs.ClassByClass.{listed_below}
use Rattle.plan_session.proofs.Grown.{lines_in}
use Rattle.plan_session.proofs.report.Report.entities.Given as goal

-- the entities of the classes so far are written
abbrev pub invariant-loop-class : goal.invariant-loop-class
invariant-loop-class l = l.out.items ≡ l.initial.out.items ++ lines_text l.self.schema.now l.self.rules.now (listed_below (lines_in l.plan) l.plan l.class)
