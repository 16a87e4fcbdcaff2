-- What each printed line says of changes.
use Rattle.std.proofs.Common.{◌≡◌, ◌∙◌, ℕ, Bool, true, false, ◌==◌, ◌&&◌, cond, List, [], ◌∷◌, ◌++◌, length, take, drop, Option, Some, None, refl, sym, ap, inl, inr, ne_eqb}
use Rattle.std.specs.Prelude.{codes, decimal, nat_eq, is_some}
use Rattle.std.specs.List.{list_any}
use Rattle.std.specs.Cmp.Lexicographic.{pointwise}
use Rattle.std.proofs.lemmas.Bool.{and_left, and_right, both_ways, eqb-true, or_cases, or_parts}
use Rattle.std.proofs.lemmas.List.{append_assoc}
use Rattle.plan_facts.specs.declared.record.ClassDef.{ClassDef}
use Rattle.plan_scores.specs.declared.plan_score.PlanScore.{PlanScore}
use Rattle.plan_rules.specs.declared.rule.RuleDef.{RuleDef}
use Rattle.plan_reports.specs.Facts.{class_name}
use Rattle.plan_reports.specs.ChangeLines.{change_text}
use Rattle.plan_reports.specs.Lines.{entity_text, line_text, scored_text, step_end, variables_of, variables_text}
use Rattle.plan_reports.specs.declared.line.Line.{Line}
use Rattle.plan_reports.specs.declared.line.Line.TheVariants as line
use Rattle.run_journal.specs.Bounds.{after_prefix}
use Rattle.text_journal.specs.Laws.{HaveNames, IsNamed}
use Rattle.text_journal.specs.Marks.{change_mark}
use Rattle.text_journal.proofs.Lacking.{Lacks}
use Rattle.text_journal.proofs.Ended.{Ended, IsPlain, literal, ◌⊕◌, closed, before}
use Rattle.text_journal.proofs.Printed.{change_plain, class_unspaced, entity_plain, fact_plain, fault_plain, name_plain, number_plain, plan_score_plain, row_plain, rule_plain, rule_text_plain, score_plain, winner_plain}

-- the line begins as that of a change with this number and boundary; where it's none, not even as one
abbrev pub Says : Option (ℕ × ℕ) → List ℕ → Type 0
Says None body = after_prefix (codes "change ") body ≡ None
Says (Some mark) body = (rest : List ℕ) × (body ≡ change_text mark.0 mark.1 ++ 32 ∷ rest)

-- the text is a line with its line feed, which says this of a change
pub record IsMarked (mark : Option (ℕ × ℕ)) (text : List ℕ) : Type 0 where
  pub ended : Ended text
  pub says : Says mark ended.body

-- a name without spaces and then a number sign don't begin with a prefix that has a space and no number sign
no_prefix : (prefix name rest : List ℕ) → list_any (λ b. b == 32) prefix ≡ true → Lacks 35 prefix → Lacks 32 name
    → pointwise nat_eq (take (length prefix) (name ++ 35 ∷ rest)) prefix ≡ false
no_prefix [] name rest spaced unsigned lacks = absurd (both_ways false refl spaced)
no_prefix (p ∷ prefix) [] rest spaced unsigned lacks =
    let other = (or_parts (p == 35) (list_any (λ b. b == 35) prefix) unsigned).0 in
    and_left (nat_eq 35 p) (pointwise nat_eq (take (length prefix) rest) prefix)
    (ne_eqb 35 p (λ same. both_ways (p == 35) other (ap (λ n. n == 35) (sym same))))
no_prefix (p ∷ prefix) (x ∷ name) rest spaced unsigned lacks =
    let later = pointwise nat_eq (take (length prefix) (name ++ 35 ∷ rest)) prefix in
    let sign = or_parts (p == 35) (list_any (λ b. b == 35) prefix) unsigned in
    let space = or_parts (x == 32) (list_any (λ b. b == 32) name) lacks in
    elim (or_cases (p == 32) (list_any (λ b. b == 32) prefix) spaced) [
      | inl here ↦ and_left (nat_eq x p) later
          (ne_eqb x p (λ same. both_ways (x == 32) space.0 (ap (λ n. n == 32) (same ∙ eqb-true p 32 here))))
      | inr behind ↦ and_right (nat_eq x p) later (no_prefix prefix name rest behind sign.1 space.1)
    ]

-- so no fact begins as a change
fact_no_change : (name rest : List ℕ) → Lacks 32 name → after_prefix (codes "change ") (name ++ 35 ∷ rest) ≡ None
fact_no_change name rest lacks =
    ap (λ b. cond b (Some (drop 7 (name ++ 35 ∷ rest))) None) (no_prefix (codes "change ") name rest refl refl lacks)

-- a line that is none of a change
other : (text : List ℕ) (ended : Ended text) → after_prefix (codes "change ") ended.body ≡ None → IsMarked None text
other text ended none = record { ended = ended; says = none }

-- a line of a change, by a word behind its boundary and what that tells
changed : (number boundary : ℕ) (word told : List ℕ) → IsPlain (32 ∷ word) → IsPlain told
    → IsMarked (Some (number, boundary)) (((change_text number boundary ++ 32 ∷ word) ++ told) ++ codes "\n")
changed number boundary word told one two = record {
  ended = closed (change_plain number boundary ⊕ one ⊕ two);
  says = (word ++ told, append_assoc (change_text number boundary) (32 ∷ word) told);
}

-- a word, a score and the end of the line
abbrev scored : {word : List ℕ} (score : PlanScore) → IsPlain word → Ended (scored_text word score)
scored score plain = closed (plain ⊕ plan_score_plain score)

-- the end of a step's line
step_ended : (winner : Option ℕ) (is_best : Bool) → Ended (step_end winner is_best)
step_ended winner is_best = by_best (is_some winner && is_best)
  where
    by_best : (b : Bool) → Ended (cond b (codes " best\n") (codes "\n"))
    by_best true = closed (literal (codes " best") refl)
    by_best false = closed (literal [] refl)

module _ (classes : List ClassDef) (rules : List RuleDef) (names : HaveNames classes rules) where
  -- the line of an entity of the best plan
  entity_marked : (class id : ℕ) (values : List (Option ℕ))
      → IsMarked None (entity_text classes class id values ++ codes "\n")
  entity_marked class id values =
      let name = class_name classes class in
      let variables = variables_text (variables_of classes class) values in
      other (entity_text classes class id values ++ codes "\n")
      (closed (entity_plain classes rules names class id values))
      (ap (after_prefix (codes "change "))
      (append_assoc (name ++ codes "#") (decimal id) variables
      ∙ append_assoc name (codes "#") (decimal id ++ variables))
      ∙ fact_no_change name (decimal id ++ variables) (class_unspaced classes rules names class))

  -- each printed line says what it says of a change
  pub line_marked : (line : Line) → IsNamed line → IsMarked (change_mark line) (line_text classes rules line)
  line_marked (line.Run domain) named = other _ (closed (literal (codes "run ") refl ⊕ name_plain domain named)) refl
  line_marked (line.Leg boundary) named = other _ (closed (literal (codes "leg ") refl ⊕ number_plain boundary)) refl
  line_marked (line.Applied feed boundary class id) named =
      changed feed boundary (codes "applied ") _
      (literal (codes " applied ") refl) (fact_plain classes rules names class id)
  line_marked (line.AppliedRule feed boundary rule) named =
      changed feed boundary (codes "applied ") _
      (literal (codes " applied ") refl) (rule_text_plain classes rules names rule)
  line_marked (line.Refused feed boundary fault) named =
      changed feed boundary (codes "refused ") _
      (literal (codes " refused ") refl) (fault_plain classes rules names fault)
  line_marked (line.Place class id values score) named =
      other _ (before (literal (codes "place ") refl ⊕ entity_plain classes rules names class id values)
      (scored score (literal (codes " ") refl))) refl
  line_marked (line.Stuck class id) named =
      other _ (closed (literal (codes "stuck ") refl ⊕ fact_plain classes rules names class id)) refl
  line_marked (line.Start score) named = other _ (scored score (literal (codes "start ") refl)) refl
  line_marked (line.Step step winner score is_best) named =
      other _ (before (literal (codes "step ") refl ⊕ number_plain step ⊕ literal (codes " ") refl
      ⊕ winner_plain winner ⊕ literal (codes " ") refl ⊕ plan_score_plain score) (step_ended winner is_best)) refl
  line_marked (line.Best score) named = other _ (scored score (literal (codes "best ") refl)) refl
  line_marked (line.Entity class id values) named = entity_marked class id values
  line_marked (line.Rule rule count impact) named =
      other _ (closed (literal (codes "rule ") refl ⊕ rule_plain classes rules names rule
      ⊕ literal (codes " ") refl ⊕ number_plain count ⊕ literal (codes " ") refl ⊕ score_plain impact)) refl
  line_marked (line.Match impact row) named =
      other _ (closed (literal (codes "match ") refl ⊕ score_plain impact ⊕ row_plain classes rules names row)) refl
  line_marked line.End named = other _ (closed (literal (codes "end") refl)) refl
  line_marked (line.Total score) named = other _ (scored score (literal (codes "score ") refl)) refl
  line_marked (line.Indict class id count impact) named =
      other _ (closed (literal (codes "indict ") refl ⊕ fact_plain classes rules names class id
      ⊕ literal (codes " ") refl ⊕ number_plain count ⊕ literal (codes " ") refl ⊕ score_plain impact)) refl
  line_marked (line.Tour number size) named =
      other _ (closed (literal (codes "tour ") refl ⊕ number_plain number ⊕ literal (codes " ") refl
      ⊕ number_plain size)) refl
  line_marked (line.Facts count) named = other _ (closed (literal (codes "facts ") refl ⊕ number_plain count)) refl
  line_marked (line.Legs count) named = other _ (closed (literal (codes "legs ") refl ⊕ number_plain count)) refl
  line_marked (line.Steps count) named = other _ (closed (literal (codes "steps ") refl ⊕ number_plain count)) refl
  line_marked (line.Wins count) named = other _ (closed (literal (codes "won ") refl ⊕ number_plain count)) refl
