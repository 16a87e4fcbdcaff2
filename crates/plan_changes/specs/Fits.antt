-- Which plans are of which schema.
use Rattle.std.specs.Prelude.{◌≡◌, ℕ, Bool, List, length, map}
use Rattle.plan_facts.specs.Plan.{PlanView, ClassView}
use Rattle.plan_facts.specs.PlanFaults.{ranges_of, nullables_of}
use Rattle.plan_facts.specs.declared.record.ClassDef.{ClassDef}

-- what stays of a class: how many fields it has, the value class of each variable and whether it may stay null
pub record Shape : Type 0 where
  pub fields : ℕ
  pub ranges : List ℕ
  pub nullables : List Bool

-- the shape of a class as it is defined
abbrev pub shape_of : ClassDef → Shape
shape_of class = record { fields = length class.fields; ranges = ranges_of class; nullables = nullables_of class }

-- the shape of a class of a plan
abbrev pub shape_in : ClassView → Shape
shape_in class = record { fields = class.fields; ranges = class.ranges; nullables = class.nullables }

-- a plan is of a schema: its classes have the shapes that the schema says
abbrev pub IsOfSchema : List ClassDef → PlanView → Type 0
IsOfSchema classes plan = map shape_in plan.classes ≡ map shape_of classes
