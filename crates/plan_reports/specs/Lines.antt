-- The text of each printed line.
use Rattle.std.specs.Prelude.{ℕ, Bool, ◌&&◌, is_some, if◌then◌else◌, List, [], ◌++◌, Option, Some, None, flat_map, zip, codes, decimal, slice_get}
use Rattle.std.specs.Option.{option_map_or}
use Rattle.std.specs.Fmt.{signed_decimal}
use Rattle.plan_scores.specs.declared.score.Score.{Score}
use Rattle.plan_scores.specs.declared.plan_score.PlanScore.{PlanScore}
use Rattle.plan_scores.specs.Text.{score_text, plan_score_text}
use Rattle.plan_facts.specs.declared.record.ClassDef.{ClassDef}
use Rattle.plan_facts.specs.declared.record.VarDef.{VarDef}
use Rattle.plan_rules.specs.declared.rule.RuleDef.{RuleDef}
use Rattle.plan_rules.specs.Named.{rule_name}
use Rattle.plan_rules.specs.declared.row.Part.{Part}
use Rattle.plan_rules.specs.declared.row.Part.TheVariants.{Fact, Num}
use Rattle.plan_reports.specs.Facts.{fact_text}
use Rattle.plan_reports.specs.ChangeLines.{applied_text, applied_rule_text, refused_text}
use Rattle.plan_reports.specs.declared.line.Line.{Line}
use Rattle.plan_reports.specs.declared.line.Line.TheVariants as line

-- the variables of a class
abbrev pub variables_of : List ClassDef → ℕ → List VarDef
variables_of classes class = option_map_or (λ c. c.vars) (slice_get classes class) []

-- the id of a value, or a dash for null
abbrev pub value_text : Option ℕ → List ℕ
value_text None = codes "-"
value_text (Some id) = decimal id

-- a variable and its value after a space, as in slot=2
abbrev pub variable_text : VarDef → Option ℕ → List ℕ
variable_text var value = codes " " ++ var.name ++ codes "=" ++ value_text value

-- some variables with their values
abbrev pub variables_text : List VarDef → List (Option ℕ) → List ℕ
variables_text vars values = flat_map (λ pair. variable_text pair.0 pair.1) (zip vars values)

-- an entity with the value of each variable, as in lesson#1 slot=2 room=-
abbrev pub entity_text : List ClassDef → ℕ → ℕ → List (Option ℕ) → List ℕ
entity_text classes class id values =
    fact_text classes class id ++ variables_text (variables_of classes class) values

-- a part of a row: a fact, or a number
abbrev pub part_text : List ClassDef → Part → List ℕ
part_text classes (Fact rec) = fact_text classes rec.class rec.id
part_text classes (Num n) = signed_decimal n

-- the parts of a row, each after a space
abbrev pub row_text : List ClassDef → List Part → List ℕ
row_text classes row = flat_map (λ part. codes " " ++ part_text classes part) row

-- a word, a score and the end of the line
abbrev pub scored_text : List ℕ → PlanScore → List ℕ
scored_text word score = word ++ plan_score_text score ++ codes "\n"

-- the line of a rule: its name, how many matches it has, and the sum of their impacts
abbrev pub sum_text : List ℕ → ℕ → Score → List ℕ
sum_text name count impact =
    codes "rule " ++ name ++ codes " " ++ decimal count ++ codes " " ++ score_text impact ++ codes "\n"

-- the line of a match: its impact and its parts
abbrev pub match_text : List ClassDef → Score → List Part → List ℕ
match_text classes impact row = codes "match " ++ score_text impact ++ row_text classes row ++ codes "\n"

-- the line of a fact that is a part of matches: in how many it stands, and the sum of their impacts
abbrev pub indict_text : List ClassDef → ℕ → ℕ → ℕ → Score → List ℕ
indict_text classes class id count impact =
    codes "indict " ++ fact_text classes class id ++ codes " " ++ decimal count ++ codes " "
    ++ score_text impact ++ codes "\n"

-- the line of an entity that was placed: all its variables, and the score after it
abbrev pub place_text : List ClassDef → ℕ → ℕ → List (Option ℕ) → PlanScore → List ℕ
place_text classes class id values score =
    codes "place " ++ entity_text classes class id values ++ scored_text (codes " ") score

-- what won a step: a candidate's number, or none
abbrev pub winner_text : Option ℕ → List ℕ
winner_text None = codes "none"
winner_text (Some number) = codes "candidate " ++ decimal number

-- the end of a step's line: whether its winner is the best of the leg so far
abbrev pub step_end : Option ℕ → Bool → List ℕ
step_end winner is_best = if is_some winner && is_best then codes " best\n" else codes "\n"

-- the line of a step: its number, its winner, the score after it
abbrev pub step_text : ℕ → Option ℕ → PlanScore → Bool → List ℕ
step_text step winner score is_best =
    codes "step " ++ decimal step ++ codes " " ++ winner_text winner ++ codes " "
    ++ plan_score_text score ++ step_end winner is_best

-- a word, a count and the end of the line
abbrev pub counted_text : List ℕ → ℕ → List ℕ
counted_text word count = word ++ decimal count ++ codes "\n"

-- the first line of a tour: the number and the size of its problem
abbrev pub tour_text : ℕ → ℕ → List ℕ
tour_text number size = codes "tour " ++ decimal number ++ codes " " ++ decimal size ++ codes "\n"

-- the text of a line, with its line feed
abbrev pub line_text : List ClassDef → List RuleDef → Line → List ℕ
line_text classes rules (line.Run domain) = codes "run " ++ domain ++ codes "\n"
line_text classes rules (line.Leg boundary) = codes "leg " ++ decimal boundary ++ codes "\n"
line_text classes rules (line.Applied feed boundary class id) = applied_text classes feed boundary class id
line_text classes rules (line.AppliedRule feed boundary rule) = applied_rule_text rules feed boundary rule
line_text classes rules (line.Refused feed boundary fault) = refused_text classes rules feed boundary fault
line_text classes rules (line.Place class id values score) = place_text classes class id values score
line_text classes rules (line.Stuck class id) = codes "stuck " ++ fact_text classes class id ++ codes "\n"
line_text classes rules (line.Start score) = scored_text (codes "start ") score
line_text classes rules (line.Step step winner score is_best) = step_text step winner score is_best
line_text classes rules (line.Best score) = scored_text (codes "best ") score
line_text classes rules (line.Entity class id values) = entity_text classes class id values ++ codes "\n"
line_text classes rules (line.Rule rule count impact) = sum_text (rule_name rules rule) count impact
line_text classes rules (line.Match impact row) = match_text classes impact row
line_text classes rules line.End = codes "end\n"
line_text classes rules (line.Total score) = scored_text (codes "score ") score
line_text classes rules (line.Indict class id count impact) = indict_text classes class id count impact
line_text classes rules (line.Tour number size) = tour_text number size
line_text classes rules (line.Facts count) = counted_text (codes "facts ") count
line_text classes rules (line.Legs count) = counted_text (codes "legs ") count
line_text classes rules (line.Steps count) = counted_text (codes "steps ") count
line_text classes rules (line.Wins count) = counted_text (codes "won ") count

-- the text of some lines
abbrev pub lines_text : List ClassDef → List RuleDef → List Line → List ℕ
lines_text classes rules lines = flat_map (line_text classes rules) lines
