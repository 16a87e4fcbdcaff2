-- What a report writes.
use Rattle.std.specs.Prelude.{◌≡◌, ◌++◌, ℕ, List, Result, OnOk}
use Rattle.plan_reports.specs.declared.line.Line.{Line}
use Rattle.plan_reports.specs.Lines.{lines_text}
use Rattle.plan_search.specs.Posed.{Posed}
use Rattle.plan_session.specs.declared.report.Report.{Report}

-- these lines stand behind what was written, unless memory was wanting
abbrev pub Writes : {A E : Type 0} → Report → Result A E → List ℕ → List ℕ → List Line → Type 0
Writes report result old new lines = OnOk result (new ≡ old ++ lines_text report.schema.now report.rules.now lines)

-- the report writes under the names of a posed problem
pub record IsReportOf (posed : Posed) (report : Report) : Type 0 where
  pub classes : report.schema.now ≡ posed.classes
  pub rules : report.rules.now ≡ posed.rules
