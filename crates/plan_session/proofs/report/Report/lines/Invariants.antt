use Rattle.std.proofs.Common.{◌≡◌, ◌++◌, take}
use Rattle.plan_reports.specs.Lines.{lines_text}
use Rattle.plan_session.proofs.report.Report.lines.Given as goal

-- the lines so far are written
abbrev pub invariant-loop-line : goal.invariant-loop-line
invariant-loop-line l = l.out.items ≡ l.initial.out.items ++ lines_text l.self.schema.now l.self.rules.now (take l.line-index l.lines)
