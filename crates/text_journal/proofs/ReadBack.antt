-- Printed lines, read as a journal.
use Rattle.std.proofs.Common.{◌≡◌, ◌∙◌, ℕ, suc, ◌+◌, ◌<◌, ◌≤◌, ◌^◌, List, [], ◌∷◌, ◌++◌, length, get_or, drop, Option, Some, None, Ok, refl, ap, arith}
use Rattle.std.specs.Prelude.{All, map, codes, decimal}
use Rattle.std.specs.List.{cons_option, range_with_len}
use Rattle.std.specs.List.Sorted.{IsNonDecreasing}
use Rattle.std.specs.Option.{option_map}
use Rattle.std.proofs.lemmas.List.{append_assoc, length-map}
use Rattle.std.proofs.lemmas.List.Elements.{All-head, All-tail}
use Rattle.feed_lines.specs.Parts.{lines_in}
use Rattle.plan_facts.specs.declared.record.ClassDef.{ClassDef}
use Rattle.plan_rules.specs.declared.rule.RuleDef.{RuleDef}
use Rattle.plan_reports.specs.ChangeLines.{change_text}
use Rattle.plan_reports.specs.Lines.{lines_text}
use Rattle.plan_reports.specs.declared.line.Line.{Line}
use Rattle.run_journal.specs.Bounds.{boundary_in, bounds_from, by_line, line_boundary, with_bound}
use Rattle.run_journal.proofs.Journals.{enough}
use Rattle.text_journal.specs.Laws.{HaveNames, IsNamed, ReadsBack}
use Rattle.text_journal.specs.Marks.{boundaries_told, change_mark, change_marks}
use Rattle.text_journal.proofs.Ended.{lines_in-body}
use Rattle.text_journal.proofs.Numerals.{boundary_in-decimal}
use Rattle.text_journal.proofs.Marked.{Says, line_marked}

-- the numbers go on behind so many, and the boundaries rise from low on and are at most the step limit
abbrev Follows : ℕ → ℕ → ℕ → List (ℕ × ℕ) → Type 0
Follows steps count low [] = Unit {0}
Follows steps count low (mark ∷ marks) =
    (mark.0 ≡ count + 1) × (count + 1 < 2 ^ 64) × (low ≤ mark.1) × (mark.1 ≤ steps)
    × Follows steps (count + 1) mark.1 marks

-- marks that are numbered in order, with boundaries that don't fall
follows_from : (steps count low : ℕ) (marks : List (ℕ × ℕ))
    → map (λ mark. mark.0) marks ≡ range_with_len (count + 1) (length marks)
    → count + length marks < 2 ^ 64
    → IsNonDecreasing (map (λ mark. mark.1) marks)
    → All (λ boundary. low ≤ boundary) (map (λ mark. mark.1) marks)
    → All (λ boundary. boundary ≤ steps) (map (λ mark. mark.1) marks)
    → Follows steps count low marks
follows_from steps count low [] numbered few rise above below = tt
follows_from steps count low (mark ∷ marks) numbered few rise above below =
    let later : List ℕ = map (λ m. m.1) marks in (
      ap (λ ns. get_or ns 0 0) numbered,
      omega arith,
      All-head (λ boundary. low ≤ boundary) mark.1 later above,
      All-head (λ boundary. boundary ≤ steps) mark.1 later below,
      follows_from steps (count + 1) mark.1 marks (ap (drop 1) numbered) (omega arith)
          (λ i j d up within. rise (suc i) (suc j) d (omega arith) (omega arith))
          (λ k d within. rise 0 (suc k) d (omega arith) (omega arith))
          (All-tail (λ boundary. boundary ≤ steps) mark.1 later below),
    )

-- a line of the next change names its boundary
mark_read : (steps count low number boundary : ℕ) (body rest : List ℕ)
    → body ≡ change_text number boundary ++ 32 ∷ rest
    → steps < 2 ^ 64 → number ≡ count + 1 → count + 1 < 2 ^ 64 → low ≤ boundary → boundary ≤ steps
    → line_boundary (count + 1) low steps body ≡ Some (Some boundary)
mark_read steps count low number boundary body rest is small next small_next above below =
    let behind : List ℕ = decimal boundary ++ 32 ∷ rest in
    ap (line_boundary (count + 1) low steps) is
    ∙ ap (λ text. Some (boundary_in (count + 1) low steps text))
    (append_assoc (decimal number ++ codes " ") (decimal boundary) (32 ∷ rest)
    ∙ append_assoc (decimal number) (codes " ") behind)
    ∙ ap (λ n. Some (boundary_in (count + 1) low steps (decimal n ++ 32 ∷ behind))) next
    ∙ ap (λ read. Some read)
    (boundary_in-decimal low steps (count + 1) boundary rest small_next (omega arith) above below)

-- a line is passed over or names its boundary, by its mark
line_read : (steps before count low : ℕ) (mark : Option (ℕ × ℕ)) (body : List ℕ) (lines : List (List ℕ))
    (marks : List (ℕ × ℕ))
    → Says mark body
    → steps < 2 ^ 64
    → Follows steps count low (cons_option mark marks)
    → ((count low : ℕ) → Follows steps count low marks
    → bounds_from steps (before + 1) count low lines ≡ Ok (map (λ m. m.1) marks))
    → bounds_from steps before count low (body ∷ lines) ≡ Ok (map (λ m. m.1) (cons_option mark marks))
line_read steps before count low None body lines marks says small follows later =
    ap (λ said. by_line (before + 1) said (bounds_from steps (before + 1) count low lines)
    (λ bound. bounds_from steps (before + 1) (count + 1) bound lines))
    (ap (option_map (boundary_in (count + 1) low steps)) says)
    ∙ later count low follows
line_read steps before count low (Some mark) body lines marks says small follows later =
    ap (λ said. by_line (before + 1) said (bounds_from steps (before + 1) count low lines)
    (λ bound. bounds_from steps (before + 1) (count + 1) bound lines))
    (mark_read steps count low mark.0 mark.1 body says.0 says.1 small follows.0 follows.1 follows.2 follows.3)
    ∙ ap (with_bound mark.1) (later (count + 1) mark.1 follows.4)

module _ (classes : List ClassDef) (rules : List RuleDef) (names : HaveNames classes rules) where
  -- the lines name the boundaries of their change lines
  lines_read : (steps before count low : ℕ) (lines : List Line) → All IsNamed lines → steps < 2 ^ 64
      → Follows steps count low (change_marks lines)
      → bounds_from steps before count low (lines_in (lines_text classes rules lines)) ≡ Ok (boundaries_told lines)
  lines_read steps before count low [] named small follows = refl
  lines_read steps before count low (line ∷ lines) named small follows =
      let marked = line_marked classes rules names line (All-head IsNamed line lines named) in
      let rest = lines_text classes rules lines in
      ap (λ text. bounds_from steps before count low (lines_in (text ++ rest))) marked.ended.is
      ∙ ap (bounds_from steps before count low) (lines_in-body marked.ended.body rest marked.ended.plain.lacks)
      ∙ line_read steps before count low (change_mark line) marked.ended.body (lines_in rest) (change_marks lines)
      marked.says small follows
      (λ count low follows. lines_read steps (before + 1) count low lines
      (All-tail IsNamed line lines named) small follows)

-- the text of printed lines is a journal that names the boundaries of their change lines
pub reads_back : ReadsBack
reads_back classes rules lines steps names named numbered rise below few small =
    let marks = change_marks lines in
    let follows = follows_from steps 0 0 marks numbered (omega arith) rise (λ k d within. omega arith) below in
    enough (lines_text classes rules lines) (boundaries_told lines) (length marks) steps
    (lines_read classes rules names steps 0 0 0 lines named small follows)
    (length-map marks (λ mark. mark.1))
