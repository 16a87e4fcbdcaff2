-- The limits of a problem: how many objects it may open, and how many combinations of values, rows and score it may lead to.
use Rattle.std.specs.Prelude.{ℕ, ◌==◌, ◌+◌, ◌*◌, Bool, nat_lt, find, List, [], fold, length, Option, option_map, if◌then◌else◌}
use Rattle.std.specs.Option.{option_or}
use Rattle.plan_facts.specs.Plan.{PlanView, ids_of}
use Rattle.plan_facts.specs.declared.record.ClassDef.{ClassDef}
use Rattle.plan_facts.specs.declared.record.VarDef.{VarDef}
use Rattle.plan_rules.specs.Named.{rule_name}
use Rattle.plan_rules.specs.Range.{range_fault_of, sizes_of}
use Rattle.plan_rules.specs.declared.rule.RuleDef.{RuleDef}
use Rattle.plan_rules.specs.declared.fault.RangeFault.{RangeFault}
use Rattle.plan_rules.specs.declared.fault.RangeFault.TheVariants as range
use Rattle.problem_faults.specs.declared.fault.ProblemFault.{ProblemFault}
use Rattle.problem_faults.specs.declared.fault.ProblemFault.TheVariants.{RangeProduct, RowsBound, ScoreRange}
use Rattle.plan_json.specs.Domains.{DomainView}

-- a byte opens an object, or stands in a text and looks so: it is `{`
abbrev pub opens_object : ℕ → Bool
opens_object byte = byte == 123

-- how many choices a variable has: the facts of its range, and null where it may stay null
abbrev pub choice_count : PlanView → VarDef → ℕ
choice_count plan var = if var.nullable then length (ids_of plan var.values) + 1 else length (ids_of plan var.values)

-- how many combinations of values an entity of a class could take: the product of the numbers of choices
abbrev pub combination_count : PlanView → ClassDef → ℕ
combination_count plan class = fold (λ count var. count * choice_count plan var) 1 class.vars

-- an entity of the class could take more than 65,536 combinations
abbrev pub is_wide : PlanView → ClassDef → Bool
is_wide plan class = nat_lt 65536 (combination_count plan class)

-- the first class whose entities could take too many combinations
abbrev pub product_fault : List ClassDef → PlanView → Option ProblemFault
product_fault classes plan = option_map (λ class. RangeProduct class.name) (find (is_wide plan) classes)

-- a fault of the range of rows and score, by the rule's name
abbrev pub named_range_fault : List RuleDef → RangeFault → ProblemFault
named_range_fault rules (range.RowsBound rule) = RowsBound (rule_name rules rule)
named_range_fault rules range.ScoreRange = ScoreRange

-- too many rows or too great a score, for the rules of a domain under these weights
abbrev pub range_fault_in : DomainView → List ℕ → PlanView → Option RangeFault
range_fault_in domain weights plan = range_fault_of (sizes_of plan) domain.rules weights domain.caps

-- the first class with too many combinations, or else too many rows or too great a score
abbrev pub limits_fault : DomainView → List ℕ → PlanView → Option ProblemFault
limits_fault domain weights plan =
    option_or (product_fault domain.classes plan)
    (option_map (named_range_fault domain.rules) (range_fault_in domain weights plan))
