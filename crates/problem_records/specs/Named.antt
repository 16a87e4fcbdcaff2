-- A fault of a plan, by the names of its class and variable.
use Rattle.std.specs.Prelude.{ℕ, List, [], slice_get}
use Rattle.std.specs.Option.{option_map_or}
use Rattle.plan_facts.specs.declared.record.ClassDef.{ClassDef}
use Rattle.plan_facts.specs.declared.fault.PlanFault.{PlanFault}
use Rattle.plan_facts.specs.declared.fault.PlanFault.TheVariants.{BadValue as BadPlanValue}
use Rattle.problem_faults.specs.declared.fault.ProblemFault.{ProblemFault}
use Rattle.problem_faults.specs.declared.fault.ProblemFault.TheVariants.{Memory, BadValue}

-- the name of the class with this number
abbrev pub class_name : List ClassDef → ℕ → List ℕ
class_name classes n = option_map_or (λ class. class.name) (slice_get classes n) []

-- the name of a variable of a class
abbrev pub var_name_in : ClassDef → ℕ → List ℕ
var_name_in class k = option_map_or (λ var. var.name) (slice_get class.vars k) []

-- the name of the variable with this number, of the class with this number
abbrev pub var_name : List ClassDef → ℕ → ℕ → List ℕ
var_name classes n k = option_map_or (λ class. var_name_in class k) (slice_get classes n) []

-- a value that is no record of its value class; of all that a plan may refuse, want of memory alone is left beside it
abbrev pub named_fault : List ClassDef → PlanFault → ProblemFault
named_fault classes (BadPlanValue n id k) = BadValue (class_name classes n) id (var_name classes n k)
named_fault classes fault = Memory
