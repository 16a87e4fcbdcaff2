-- The classes that are made of names that are lent.
use Rattle.std.specs.Prelude.{ℕ, List, map}
use Rattle.plan_facts.specs.declared.record.Kind.{Kind}
use Rattle.plan_facts.specs.declared.record.FieldDef.{FieldDef}
use Rattle.plan_facts.specs.declared.record.VarDef.{VarDef}
use Rattle.plan_facts.specs.declared.record.ClassDef.{ClassDef}
use Rattle.domain_words.specs.declared.classes.Variable.{Variable}
use Rattle.domain_words.specs.Tables.{class, variable}
use denote.Ref.{Bor}

-- a field of a name that is lent and a kind
abbrev pub lent_field : (Bor (List ℕ) × Kind) → FieldDef
lent_field lent = record { name = lent.0.now; kind = lent.1 }

-- a variable whose name is lent
abbrev pub lent_variable : Variable → VarDef
lent_variable lent = variable lent.name.now lent.values lent.nullable

-- a class of this name with such fields and variables
abbrev pub lent_class : List ℕ → List (Bor (List ℕ) × Kind) → List Variable → ClassDef
lent_class name fields vars = class name (map lent_field fields) (map lent_variable vars)
