-- The text of the lines of changes.
use Rattle.std.specs.Prelude.{ℕ, List, [], ◌++◌, codes, decimal}
use Rattle.plan_facts.specs.declared.record.ClassDef.{ClassDef}
use Rattle.plan_rules.specs.declared.rule.RuleDef.{RuleDef}
use Rattle.plan_rules.specs.Named.{rule_name}
use Rattle.plan_changes.specs.declared.line.Spot.{Spot}
use Rattle.plan_changes.specs.declared.line.Spot.TheVariants as spot
use Rattle.plan_changes.specs.declared.fault.ChangeFault.{ChangeFault}
use Rattle.plan_changes.specs.declared.fault.ChangeFault.TheVariants as fault
use Rattle.plan_reports.specs.Facts.{class_name, fact_text}

-- what is wrong with a line that should be a change, in one word
abbrev pub spot_word : Spot → List ℕ
spot_word spot.Json = codes "json"
spot_word spot.Object = codes "object"
spot_word spot.Do = codes "do"
spot_word spot.Class = codes "class"
spot_word spot.Id = codes "id"
spot_word spot.Fields = codes "fields"
spot_word spot.Values = codes "values"
spot_word spot.Rule = codes "rule"
spot_word spot.Weight = codes "weight"
spot_word spot.Member = codes "member"

-- why a change is refused; want of memory has no words
abbrev pub fault_words : List ClassDef → List RuleDef → ChangeFault → List ℕ
fault_words classes rules fault.Memory = []
fault_words classes rules (fault.Syntax spot) = codes "syntax " ++ spot_word spot
fault_words classes rules fault.LongLine = codes "long_line"
fault_words classes rules fault.UnknownClass = codes "unknown_class"
fault_words classes rules (fault.NoSuchFact id) = codes "no_such_fact"
fault_words classes rules fault.BadField = codes "bad_field"
fault_words classes rules fault.BadValue = codes "bad_value"
fault_words classes rules fault.TooManyFacts = codes "too_many_facts"
fault_words classes rules (fault.RangeProduct class) = codes "range_product " ++ class_name classes class
fault_words classes rules (fault.RowsBound rule) = codes "rows_bound " ++ rule_name rules rule
fault_words classes rules fault.ScoreRange = codes "score_range"
fault_words classes rules fault.UnknownRule = codes "unknown_rule"

-- the beginning of a change's line: the number of its line in the feed, and the boundary at which it was handled
abbrev pub change_text : ℕ → ℕ → List ℕ
change_text line boundary = codes "change " ++ decimal line ++ codes " " ++ decimal boundary

-- the line of a change of a fact that was made
abbrev pub applied_text : List ClassDef → ℕ → ℕ → ℕ → ℕ → List ℕ
applied_text classes line boundary class id =
    change_text line boundary ++ codes " applied " ++ fact_text classes class id ++ codes "\n"

-- a rule by its name
abbrev pub rule_text : List RuleDef → ℕ → List ℕ
rule_text rules rule = codes "rule " ++ rule_name rules rule

-- the line of a change of a rule's weight that was made
abbrev pub applied_rule_text : List RuleDef → ℕ → ℕ → ℕ → List ℕ
applied_rule_text rules line boundary rule =
    change_text line boundary ++ codes " applied " ++ rule_text rules rule ++ codes "\n"

-- the line of a change that was refused
abbrev pub refused_text : List ClassDef → List RuleDef → ℕ → ℕ → ChangeFault → List ℕ
refused_text classes rules line boundary fault =
    change_text line boundary ++ codes " refused " ++ fault_words classes rules fault ++ codes "\n"
