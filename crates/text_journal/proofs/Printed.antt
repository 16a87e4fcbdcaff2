-- The parts of printed lines are plain.
use Rattle.std.proofs.Common.{ℕ, zero, suc, Bool, true, false, ◌==◌, cond, List, [], ◌∷◌, ◌++◌, Option, Some, None, refl, arith}
use Rattle.std.specs.Prelude.{IsTrue, All, codes, decimal}
use Rattle.std.specs.Fmt.{signed_decimal}
use Rattle.std.proofs.Math.IntN.{ℤ}
use Rattle.std.proofs.lemmas.List.Elements.{All-head, All-tail, All-nil}
use Rattle.plan_facts.specs.Schema.{is_name}
use Rattle.plan_facts.specs.declared.record.ClassDef.{ClassDef}
use Rattle.plan_facts.specs.declared.record.VarDef.{VarDef}
use Rattle.plan_scores.specs.declared.score.Score.{Score}
use Rattle.plan_scores.specs.declared.plan_score.PlanScore.{PlanScore}
use Rattle.plan_scores.specs.Text.{score_text, plan_score_text, unplaced_text}
use Rattle.plan_rules.specs.declared.rule.RuleDef.{RuleDef}
use Rattle.plan_rules.specs.declared.row.Part.{Part}
use Rattle.plan_rules.specs.declared.row.Part.TheVariants.{Fact, Num}
use Rattle.plan_rules.specs.Named.{rule_name}
use Rattle.plan_changes.specs.declared.line.Spot.{Spot}
use Rattle.plan_changes.specs.declared.line.Spot.TheVariants as spot
use Rattle.plan_changes.specs.declared.fault.ChangeFault.{ChangeFault}
use Rattle.plan_changes.specs.declared.fault.ChangeFault.TheVariants as fault
use Rattle.plan_reports.specs.Facts.{class_name, fact_text}
use Rattle.plan_reports.specs.ChangeLines.{change_text, fault_words, rule_text, spot_word}
use Rattle.plan_reports.specs.Lines.{entity_text, part_text, row_text, value_text, variables_of, variables_text, winner_text}
use Rattle.text_journal.specs.Laws.{HaveNames}
use Rattle.text_journal.proofs.Lacking.{Lacks, lacks-decimal, lacks-signed, lacks-name, lacks-name_of}
use Rattle.text_journal.proofs.Ended.{IsPlain, literal, ◌⊕◌}

pub number_plain : (n : ℕ) → IsPlain (decimal n)
number_plain n = literal (decimal n) (lacks-decimal 10 n (omega arith))

signed_plain : (z : ℤ) → IsPlain (signed_decimal z)
signed_plain z = literal (signed_decimal z) (lacks-signed 10 z (omega arith))

pub name_plain : (name : List ℕ) → IsTrue (is_name name) → IsPlain name
name_plain name named = literal name (lacks-name 10 refl name named)

pub score_plain : (s : Score) → IsPlain (score_text s)
score_plain s =
    signed_plain s.hard ⊕ literal (codes "hard/") refl ⊕ signed_plain s.medium ⊕ literal (codes "medium/") refl
    ⊕ signed_plain s.soft ⊕ literal (codes "soft") refl

unplaced_plain : (n : ℕ) → IsPlain (unplaced_text n)
unplaced_plain n = by_none (n == 0)
  where
    by_none : (b : Bool) → IsPlain (cond b [] (codes "-" ++ decimal n ++ codes "init/"))
    by_none true = literal [] refl
    by_none false = literal (codes "-") refl ⊕ number_plain n ⊕ literal (codes "init/") refl

pub plan_score_plain : (p : PlanScore) → IsPlain (plan_score_text p)
plan_score_plain p = unplaced_plain p.unplaced ⊕ score_plain p.score

value_plain : (value : Option ℕ) → IsPlain (value_text value)
value_plain None = literal (codes "-") refl
value_plain (Some id) = number_plain id

pub winner_plain : (winner : Option ℕ) → IsPlain (winner_text winner)
winner_plain None = literal (codes "none") refl
winner_plain (Some number) = literal (codes "candidate ") refl ⊕ number_plain number

pub change_plain : (number boundary : ℕ) → IsPlain (change_text number boundary)
change_plain number boundary =
    literal (codes "change ") refl ⊕ number_plain number ⊕ literal (codes " ") refl ⊕ number_plain boundary

spot_plain : (spot : Spot) → Lacks 10 (spot_word spot)
spot_plain spot.Json = refl
spot_plain spot.Object = refl
spot_plain spot.Do = refl
spot_plain spot.Class = refl
spot_plain spot.Id = refl
spot_plain spot.Fields = refl
spot_plain spot.Values = refl
spot_plain spot.Rule = refl
spot_plain spot.Weight = refl
spot_plain spot.Member = refl

variables_plain : (vars : List VarDef) → All (λ var. IsTrue (is_name var.name)) vars
    → (values : List (Option ℕ)) → IsPlain (variables_text vars values)
variables_plain [] named values = literal [] refl
variables_plain (var ∷ vars) named [] = literal [] refl
variables_plain (var ∷ vars) named (value ∷ values) =
    let name = name_plain var.name (All-head (λ v. IsTrue (is_name v.name)) var vars named) in
    (literal (codes " ") refl ⊕ name ⊕ literal (codes "=") refl ⊕ value_plain value)
    ⊕ variables_plain vars (All-tail (λ v. IsTrue (is_name v.name)) var vars named) values

-- the variables of a class have names
variables_named : (classes : List ClassDef) → All (λ class. All (λ var. IsTrue (is_name var.name)) class.vars) classes
    → (class : ℕ) → All (λ var. IsTrue (is_name var.name)) (variables_of classes class)
variables_named [] named class = All-nil (λ var. IsTrue (is_name var.name))
variables_named (c ∷ classes) named zero =
    All-head (λ class. All (λ var. IsTrue (is_name var.name)) class.vars) c classes named
variables_named (c ∷ classes) named (suc class) =
    variables_named classes
    (All-tail (λ class. All (λ var. IsTrue (is_name var.name)) class.vars) c classes named) class

module _ (classes : List ClassDef) (rules : List RuleDef) (names : HaveNames classes rules) where
  class_plain : (class : ℕ) → IsPlain (class_name classes class)
  class_plain class =
      literal (class_name classes class) (lacks-name_of 10 refl (λ c. c.name) classes names.classes class)

  -- nor has the name of a class a space
  pub class_unspaced : (class : ℕ) → Lacks 32 (class_name classes class)
  class_unspaced class = lacks-name_of 32 refl (λ c. c.name) classes names.classes class

  pub rule_plain : (rule : ℕ) → IsPlain (rule_name rules rule)
  rule_plain rule = literal (rule_name rules rule) (lacks-name_of 10 refl (λ r. r.name) rules names.rules rule)

  pub rule_text_plain : (rule : ℕ) → IsPlain (rule_text rules rule)
  rule_text_plain rule = literal (codes "rule ") refl ⊕ rule_plain rule

  pub fact_plain : (class id : ℕ) → IsPlain (fact_text classes class id)
  fact_plain class id = class_plain class ⊕ literal (codes "#") refl ⊕ number_plain id

  pub entity_plain : (class id : ℕ) (values : List (Option ℕ)) → IsPlain (entity_text classes class id values)
  entity_plain class id values =
      fact_plain class id
      ⊕ variables_plain (variables_of classes class) (variables_named classes names.vars class) values

  part_plain : (part : Part) → IsPlain (part_text classes part)
  part_plain (Fact rec) = fact_plain rec.class rec.id
  part_plain (Num n) = signed_plain n

  pub row_plain : (row : List Part) → IsPlain (row_text classes row)
  row_plain [] = literal [] refl
  row_plain (part ∷ row) = (literal (codes " ") refl ⊕ part_plain part) ⊕ row_plain row

  pub fault_plain : (fault : ChangeFault) → IsPlain (fault_words classes rules fault)
  fault_plain fault.Memory = literal [] refl
  fault_plain (fault.Syntax spot) = literal (codes "syntax ") refl ⊕ literal (spot_word spot) (spot_plain spot)
  fault_plain fault.LongLine = literal (codes "long_line") refl
  fault_plain fault.UnknownClass = literal (codes "unknown_class") refl
  fault_plain (fault.NoSuchFact id) = literal (codes "no_such_fact") refl
  fault_plain fault.BadField = literal (codes "bad_field") refl
  fault_plain fault.BadValue = literal (codes "bad_value") refl
  fault_plain fault.TooManyFacts = literal (codes "too_many_facts") refl
  fault_plain (fault.RangeProduct class) = literal (codes "range_product ") refl ⊕ class_plain class
  fault_plain (fault.RowsBound rule) = literal (codes "rows_bound ") refl ⊕ rule_plain rule
  fault_plain fault.ScoreRange = literal (codes "score_range") refl
  fault_plain fault.UnknownRule = literal (codes "unknown_rule") refl
