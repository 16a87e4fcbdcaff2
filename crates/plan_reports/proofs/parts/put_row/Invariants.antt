use Rattle.std.proofs.Common.{◌≡◌, ◌++◌, take}
use Rattle.plan_reports.specs.Lines.{row_text}
use Rattle.plan_reports.proofs.parts.put_row.Given as goal

-- the parts so far are written
abbrev pub invariant-loop-n : goal.invariant-loop-n
invariant-loop-n l = l.out.items ≡ l.initial.out.items ++ row_text l.schema (take l.n l.row)
