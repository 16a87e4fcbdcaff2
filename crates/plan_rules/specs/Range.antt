-- Bounds on rows and on the score, from how many live facts each class has.
use Rattle.std.specs.Prelude.{◌≡◌, ◌==◌, ◌≤◌, ◌-◌, ◌*◌, ◌/◌, nat_lt, ℕ, Bool, List, [], ◌∷◌, map, zip, sum_by, find, All, Option, Some, None, length, if◌then◌else◌, slice_index_or}
use Rattle.std.specs.Option.{option_or, option_map_or}
use Rattle.std.specs.List.{list_any}
use Rattle.plan_facts.specs.First.{fault_where, first_fault}
use Rattle.plan_facts.specs.Limits.{weight_limit}
use Rattle.plan_facts.specs.Plan.{PlanView}
use Rattle.plan_rules.specs.declared.rule.Head.{Head}
use Rattle.plan_rules.specs.declared.rule.Head.TheVariants as head
use Rattle.plan_rules.specs.declared.rule.Node.{Node}
use Rattle.plan_rules.specs.declared.rule.Node.TheVariants as node
use Rattle.plan_rules.specs.declared.rule.RuleDef.{RuleDef}
use Rattle.plan_rules.specs.Limits.{row_limit, score_limit}
use Rattle.plan_rules.specs.Rows.{Facts}
use Rattle.plan_rules.specs.declared.fault.RangeFault.{RangeFault}
use Rattle.plan_rules.specs.declared.fault.RangeFault.TheVariants.{RowsBound, ScoreRange}

-- how many live facts each class of a plan has
abbrev pub sizes_of : PlanView → List ℕ
sizes_of plan = map (λ class. length class.facts) plan.classes

-- the live facts of a class
abbrev pub size_of : List ℕ → ℕ → ℕ
size_of sizes class = slice_index_or sizes class 0

-- no class has more live facts than its size
abbrev pub AreWithin : List ℕ → Facts → Type 0
AreWithin sizes facts = (class : ℕ) → length (facts class) ≤ size_of sizes class

-- as many rows as a head can have
abbrev pub head_bound : List ℕ → Head → ℕ
head_bound sizes (head.ForEach class) = size_of sizes class
head_bound sizes (head.ForEachNulls class) = size_of sizes class
head_bound sizes (head.Pairs class joiners) = size_of sizes class * (size_of sizes class - 1) / 2

-- as many rows as there can be after a node, from those before it
abbrev pub node_bound : List ℕ → ℕ → Node → ℕ
node_bound sizes rows (node.Join class nulls joiners) = rows * size_of sizes class
node_bound sizes rows (node.Filter test) = rows
node_bound sizes rows (node.IfExists class nulls joiners) = rows
node_bound sizes rows (node.IfNotExists class nulls joiners) = rows
node_bound sizes rows (node.GroupBy keys collect) = rows

-- the bounds of the streams from a stream with this bound on, one after each node
abbrev pub bounds_from : List ℕ → ℕ → List Node → List ℕ
bounds_from sizes rows [] = rows ∷ []
bounds_from sizes rows (first ∷ rest) = rows ∷ bounds_from sizes (node_bound sizes rows first) rest

-- the bounds of all streams of a rule
abbrev pub stream_bounds : List ℕ → RuleDef → List ℕ
stream_bounds sizes rule = bounds_from sizes (head_bound sizes rule.head) rule.nodes

-- the bound of the stream at the end, from one with this bound on
abbrev pub bound_at_end : List ℕ → ℕ → List Node → ℕ
bound_at_end sizes rows [] = rows
bound_at_end sizes rows (first ∷ rest) = bound_at_end sizes (node_bound sizes rows first) rest

-- as many matches as a rule can have
abbrev pub rule_bound : List ℕ → RuleDef → ℕ
rule_bound sizes rule = bound_at_end sizes (head_bound sizes rule.head) rule.nodes

-- a weigher as it was handed in: its number, and the greatest weight that it gives
pub record Capped : Type 0 where
  pub number : ℕ
  pub cap : ℕ

-- the cap of the weigher with a number, or 1 where there is none
abbrev pub cap_with : List Capped → ℕ → ℕ
cap_with weighers number = option_map_or (λ w. w.cap) (find (λ w. w.number == number) weighers) 1

-- the cap of a rule's match weight: that of its weigher, or 1 where it names none
abbrev pub cap_of : List Capped → RuleDef → ℕ
cap_of weighers rule = option_map_or (cap_with weighers) rule.weigh 1

-- a rule with its weight and the cap of its match weight
pub record Weighed : Type 0 where
  pub rule : RuleDef
  pub weight : ℕ
  pub cap : ℕ

-- each rule with its weight and cap
abbrev pub weighed : List RuleDef → List ℕ → List ℕ → List Weighed
weighed rules weights caps =
    map (λ one. record { rule = one.0; weight = one.1.0; cap = one.1.1 }) (zip rules (zip weights caps))

-- as much as a rule can add up to
abbrev pub impact_bound : List ℕ → Weighed → ℕ
impact_bound sizes w = rule_bound sizes w.rule * w.weight * w.cap

-- as much as the rules can add up to
abbrev pub score_bound : List ℕ → List Weighed → ℕ
score_bound sizes rules = sum_by (impact_bound sizes) rules

-- a stream of the rule may have more than 2^32 rows
abbrev pub has_too_many_rows : List ℕ → RuleDef → Bool
has_too_many_rows sizes rule = list_any (nat_lt row_limit) (stream_bounds sizes rule)

-- as many matches as a rule can have, where none of its streams may have too many rows
abbrev pub rows_bound : List ℕ → RuleDef → Option ℕ
rows_bound sizes rule = if has_too_many_rows sizes rule then None else Some (rule_bound sizes rule)

-- the fault of a rule that stands after these: too many rows
abbrev pub rows_fault : List ℕ → List RuleDef → RuleDef → Option RangeFault
rows_fault sizes earlier rule = fault_where (has_too_many_rows sizes rule) (RowsBound (length earlier))

-- the first rule with too many rows, or else a score that may pass 2^62
abbrev pub range_fault_of : List ℕ → List RuleDef → List ℕ → List ℕ → Option RangeFault
range_fault_of sizes rules weights caps =
    option_or (first_fault (rows_fault sizes) [] rules)
    (fault_where (nat_lt score_limit (score_bound sizes (weighed rules weights caps))) ScoreRange)

-- rules may judge plans of these sizes under these weights: one weight for each rule, each at most a million, and neither
-- rows nor score out of range
pub record MayJudge (rules : List RuleDef) (caps weights' sizes : List ℕ) : Type 0 where
  pub weights : length weights' ≡ length rules
  pub few : All (λ weight. weight ≤ weight_limit) weights'
  pub range : range_fault_of sizes rules weights' caps ≡ None
