use Rattle.std.proofs.Common.{◌≡◌, ◌++◌, map, take}
use Rattle.plan_reports.specs.Lines.{lines_text}
use Rattle.plan_search.specs.RunLines.{record_line}
use Rattle.plan_session.proofs.report.Report.class.Given as goal

-- the entities so far are written
abbrev pub invariant-loop-raw : goal.invariant-loop-raw
invariant-loop-raw l = l.out.items ≡ l.initial.out.items ++ lines_text l.self.schema.now l.self.rules.now (map (record_line l.class) (take l.raw-index l.facts))
