-- The weights of a problem's rules, by its member `weights`; there may be no such member.
use Rattle.std.specs.Prelude.{ℕ, Bool, false, List, ◌++◌, Option, Some, codes, find, map, option_map, option_and_then, is_none}
use Rattle.std.specs.List.{filter_map}
use Rattle.std.specs.Option.{option_map_or, option_or}
use Rattle.serde_json.specs.Data.{Data}
use Rattle.serde_json.specs.Find.{get}
use Rattle.json_values.specs.Values.{number_within, has_other}
use Rattle.plan_facts.specs.Limits.{weight_limit}
use Rattle.plan_rules.specs.declared.rule.RuleDef.{RuleDef}
use Rattle.plan_facts.specs.First.{fault_where}
use Rattle.problem_faults.specs.declared.fault.ProblemFault.{ProblemFault}
use Rattle.problem_faults.specs.declared.fault.ProblemFault.TheVariants.{Shape}

-- a weight: a whole number from 0 to the greatest weight
abbrev pub weight_in : Data → Option ℕ
weight_in value = number_within 0 weight_limit value

-- the weight of a rule: the member of its name, none where that is no weight; its own where there is no such member
abbrev pub weight_of : Option Data → RuleDef → Option ℕ
weight_of weights rule = option_map_or weight_in (option_and_then (get rule.name) weights) (Some rule.weight)

-- the weights of the rules, in their order
abbrev pub weights_of : List RuleDef → Option Data → List ℕ
weights_of rules weights = filter_map (weight_of weights) rules

-- the first rule that gets no weight
abbrev pub first_unweighed : Option Data → List RuleDef → Option RuleDef
first_unweighed weights rules = find (λ rule. is_none (weight_of weights rule)) rules

-- the fault of a rule that gets no weight
abbrev pub unweighed_fault : RuleDef → ProblemFault
unweighed_fault rule = Shape (codes "/weights/" ++ rule.name)

-- the fault of the first rule that gets no weight
abbrev pub rules_fault : List RuleDef → Option Data → Option ProblemFault
rules_fault rules weights = option_map unweighed_fault (first_unweighed weights rules)

-- the names of rules
abbrev pub rule_names : List RuleDef → List (List ℕ)
rule_names rules = map (λ rule. rule.name) rules

-- there is a member that is no rule's name
abbrev pub has_unknown_rule : List RuleDef → Option Data → Bool
has_unknown_rule rules weights = option_map_or (has_other (rule_names rules)) weights false

-- the fault of the weights: the first rule that gets none, else that there is another member
abbrev pub weights_fault : List RuleDef → Option Data → Option ProblemFault
weights_fault rules weights =
    option_or (rules_fault rules weights)
    (fault_where (has_unknown_rule rules weights) (Shape (codes "/weights")))
