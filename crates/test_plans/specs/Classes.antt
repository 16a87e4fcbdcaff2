-- The classes that sketches stand for.
use Rattle.std.specs.Prelude.{ℕ, Bool, true, false, List, map}
use Rattle.plan_facts.specs.declared.record.Kind.{Kind}
use Rattle.plan_facts.specs.declared.record.FieldDef.{FieldDef}
use Rattle.plan_facts.specs.declared.record.VarDef.{VarDef}
use Rattle.plan_facts.specs.declared.record.ClassDef.{ClassDef}
use Rattle.test_plans.specs.declared.classes.VarSketch.{VarSketch}
use Rattle.test_plans.specs.declared.classes.VarSketch.TheVariants.{Var, Nullable}
use Rattle.test_plans.specs.declared.classes.ClassSketch.{ClassSketch}
use denote.Ref.{Bor}

-- the field of this name and kind
abbrev pub field_of : (Bor (List ℕ) × Kind) → FieldDef
field_of sketch = record { name = sketch.0.now; kind = sketch.1 }

-- a variable of this name, with values of this class, which may stay null or not
abbrev pub variable_with : List ℕ → ℕ → Bool → VarDef
variable_with name values nullable = record { name = name; values = values; nullable = nullable }

-- the variable of a sketch
abbrev pub variable_of : VarSketch → VarDef
variable_of (Var name values) = variable_with name.now values false
variable_of (Nullable name values) = variable_with name.now values true

-- the class of a sketch
abbrev pub class_of : ClassSketch → ClassDef
class_of sketch =
    record { name = sketch.0.now; fields = map field_of sketch.1.now; vars = map variable_of sketch.2.now }

-- the classes of some sketches
abbrev pub classes_of : List ClassSketch → List ClassDef
classes_of sketches = map class_of sketches
