-- The parts that the tables of a domain are made of.
use Rattle.std.specs.Prelude.{ℕ, Bool, true, false, List, Some, None}
use Rattle.plan_facts.specs.declared.record.Kind.{Kind}
use Rattle.plan_facts.specs.declared.record.Kind.TheVariants.{Number, Name}
use Rattle.plan_facts.specs.declared.record.FieldDef.{FieldDef}
use Rattle.plan_facts.specs.declared.record.VarDef.{VarDef}
use Rattle.plan_facts.specs.declared.record.ClassDef.{ClassDef}
use Rattle.plan_scores.specs.declared.level.Level.{Level}
use Rattle.plan_rules.specs.declared.rule.Head.{Head}
use Rattle.plan_rules.specs.declared.rule.Node.{Node}
use Rattle.plan_rules.specs.declared.rule.Joiner.{Joiner}
use Rattle.plan_rules.specs.declared.rule.Joiner.TheVariants.{Equal}
use Rattle.plan_rules.specs.declared.rule.RuleDef.{RuleDef}

-- a field with this name that holds a number, and one that holds a name
abbrev pub number_field : List ℕ → FieldDef
number_field name = record { name = name; kind = Number }

abbrev pub name_field : List ℕ → FieldDef
name_field name = record { name = name; kind = Name }

-- a variable with this name, which ranges over the class with this number, and may stay null or not
abbrev pub variable : List ℕ → ℕ → Bool → VarDef
variable name values nullable = record { name = name; values = values; nullable = nullable }

-- a class with this name, these fields and these variables
abbrev pub class : List ℕ → List FieldDef → List VarDef → ClassDef
class name fields vars = record { name = name; fields = fields; vars = vars }

-- the key is the same on both sides
abbrev pub same_key : ℕ → Joiner
same_key key = Equal key key

-- a rule of weight 1 that penalizes each match by 1
abbrev pub penalty : List ℕ → Level → Head → List Node → RuleDef
penalty name level head nodes =
    record { name = name; level = level; reward = false; weight = 1; weigh = None; head = head; nodes = nodes }

-- a rule of weight 1 that penalizes each match by what the weigher with this number gives
abbrev pub weighed_penalty : List ℕ → Level → ℕ → Head → List Node → RuleDef
weighed_penalty name level weigher head nodes = record (penalty name level head nodes) { weigh = Some weigher }

-- a rule of weight 1 that rewards each match by 1
abbrev pub reward : List ℕ → Level → Head → List Node → RuleDef
reward name level head nodes = record (penalty name level head nodes) { reward = true }
