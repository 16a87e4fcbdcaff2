use Rattle.std.proofs.Common.{◌≡◌, ◌++◌, map, take}
use Rattle.plan_reports.specs.Lines.{lines_text}
use Rattle.plan_search.specs.RunLines.{match_line}
use Rattle.plan_session.proofs.report.Report.matches.Given as goal

-- the matches so far are written
abbrev pub invariant-loop-one : goal.invariant-loop-one
invariant-loop-one l = l.out.items ≡ l.initial.out.items ++ lines_text l.self.schema.now l.self.rules.now (map match_line (take l.one-index l.matches))
