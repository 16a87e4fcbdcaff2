use Rattle.std.proofs.Common.{◌≡◌, ◌++◌, take}
use Rattle.plan_reports.specs.Lines.{lines_text}
use Rattle.plan_search.specs.RunLines.{matches_lines}
use Rattle.plan_session.proofs.report.Report.rules.Given as goal

-- the rules so far are written, each with its matches
abbrev pub invariant-loop-rule : goal.invariant-loop-rule
invariant-loop-rule l = l.out.items ≡ l.initial.out.items ++ lines_text l.self.schema.now l.self.rules.now (matches_lines (take l.rule l.totals.matches))
