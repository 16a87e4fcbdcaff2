-- Laws of the text of printed lines, read as a journal.
use Rattle.std.specs.Prelude.{◌≡◌, ◌≤◌, ◌<◌, ◌^◌, ℕ, ⊤, IsTrue, All, List, length, map, None, Ok}
use Rattle.std.specs.List.{range_with_len}
use Rattle.std.specs.List.Sorted.{IsNonDecreasing}
use Rattle.plan_facts.specs.Schema.{is_name, schema_fault}
use Rattle.plan_facts.specs.declared.record.ClassDef.{ClassDef}
use Rattle.plan_rules.specs.Faults.{rules_fault}
use Rattle.plan_rules.specs.declared.places.Numbers.{Numbers}
use Rattle.plan_rules.specs.declared.rule.Harder.{Harder}
use Rattle.plan_rules.specs.declared.rule.RuleDef.{RuleDef}
use Rattle.plan_reports.specs.declared.line.Line.{Line}
use Rattle.plan_reports.specs.declared.line.Line.TheVariants as line
use Rattle.plan_reports.specs.Lines.{lines_text}
use Rattle.run_journal.specs.Bounds.{bounds_of}
use Rattle.text_journal.specs.Marks.{change_marks, boundaries_told}

-- classes, their variables and rules have names of letters, digits and underscores
pub record HaveNames (schema : List ClassDef) (defs : List RuleDef) : Type 0 where
  pub classes : All (λ class. IsTrue (is_name class.name)) schema
  pub vars : All (λ class. All (λ var. IsTrue (is_name var.name)) class.vars) schema
  pub rules : All (λ rule. IsTrue (is_name rule.name)) defs

-- the classes of a schema, and rules that are accepted over them, have such names
abbrev pub AcceptedHaveNames : Type 0
AcceptedHaveNames = (classes : List ClassDef) (numbers : Numbers) (rules : List RuleDef) (harder : List Harder)
    → schema_fault classes ≡ None
    → rules_fault classes numbers rules harder ≡ None
    → HaveNames classes rules

-- a run's first line names its domain by such a name
abbrev pub IsNamed : Line → Type 0
IsNamed (line.Run domain) = IsTrue (is_name domain)
IsNamed other = ⊤

-- the text of printed lines, read as a journal, gives back the boundaries that its change lines name, where these
-- lines are numbered from 1 on, and their boundaries don't fall and are at most the step limit; the numbers
-- have at most 64 bits, since std's text of a number has at most 64 digits
abbrev pub ReadsBack : Type 0
ReadsBack = (classes : List ClassDef) (rules : List RuleDef) (lines : List Line) (steps : ℕ)
    → HaveNames classes rules
    → All IsNamed lines
    → map (λ mark. mark.0) (change_marks lines) ≡ range_with_len 1 (length (change_marks lines))
    → IsNonDecreasing (boundaries_told lines)
    → All (λ boundary. boundary ≤ steps) (boundaries_told lines)
    → length (change_marks lines) < 2 ^ 64
    → steps < 2 ^ 64
    → bounds_of (lines_text classes rules lines) (length (change_marks lines)) steps ≡ Ok (boundaries_told lines)
