-- What rules are refused for.
use Rattle.std.specs.Prelude.{◌==◌, ◌&&◌, ◌||◌, not, nat_lt, nat_le, ℕ, Bool, true, false, List, [], ◌∷◌, Option, find, length, option_map, slice_get}
use Rattle.std.specs.Option.{option_map_or, option_or}
use Rattle.std.specs.Str.{bytes_eq}
use Rattle.std.specs.List.{list_any}
use Rattle.plan_facts.specs.First.{fault_where, first_fault}
use Rattle.plan_facts.specs.Limits.{weight_limit}
use Rattle.plan_facts.specs.Schema.{is_name}
use Rattle.plan_facts.specs.declared.record.ClassDef.{ClassDef}
use Rattle.plan_rules.specs.declared.places.Numbers.{Numbers}
use Rattle.plan_rules.specs.declared.rule.Named.{Named}
use Rattle.plan_rules.specs.declared.rule.Node.{Node}
use Rattle.plan_rules.specs.declared.rule.Node.TheVariants as node
use Rattle.plan_rules.specs.declared.rule.RuleDef.{RuleDef}
use Rattle.plan_rules.specs.declared.rule.Harder.{Harder}
use Rattle.plan_rules.specs.declared.rule.Joiner.{Joiner}
use Rattle.plan_rules.specs.declared.fault.ClosureKind.{ClosureKind}
use Rattle.plan_rules.specs.declared.fault.ClosureKind.TheVariants as kind
use Rattle.plan_rules.specs.declared.fault.RuleFault.{RuleFault}
use Rattle.plan_rules.specs.declared.fault.RuleFault.TheVariants.{DoubleClosure, TooManyRules, BadName, WeightRange, TooManyNodes, UnknownClass, TooManyJoiners, KeyCount, TooManyParts, ClosureMissing, BadHarder}
use Rattle.plan_rules.specs.Named.{head_joiners, node_joiners, classes_named, closures_named, head_parts, key_named, parts_after}

-- the numbers handed in of one kind
abbrev pub numbers_in : Numbers → ClosureKind → List ℕ
numbers_in numbers kind.Test = numbers.tests
numbers_in numbers kind.Key = numbers.keys
numbers_in numbers kind.Weigh = numbers.weighs

-- a closure was handed in
abbrev pub is_handed_in : Numbers → Named → Bool
is_handed_in numbers named = list_any (λ number. number == named.number) (numbers_in numbers named.kind)

-- the name is none that a rule may have, or is that of an earlier rule
abbrev pub has_bad_name : List RuleDef → RuleDef → Bool
has_bad_name earlier rule =
    not (is_name rule.name) || list_any (λ other. bytes_eq rule.name other.name) earlier

-- the first class that the rule names and that isn't among so many
abbrev pub unknown_class : ℕ → RuleDef → Option ℕ
unknown_class classes rule = find (λ class. nat_le classes class) (classes_named rule)

-- there are more than 4 joiners
abbrev pub are_too_many : List Joiner → Bool
are_too_many joiners = nat_lt 4 (length joiners)

-- the head or a node has more than 4 joiners
abbrev pub has_too_many_joiners : RuleDef → Bool
has_too_many_joiners rule =
    are_too_many (head_joiners rule.head) || list_any (λ node. are_too_many (node_joiners node)) rule.nodes

-- a group hasn't one or two keys
abbrev pub has_bad_key_count : Node → Bool
has_bad_key_count (node.Filter test) = false
has_bad_key_count (node.Join class nulls joiners) = false
has_bad_key_count (node.IfExists class nulls joiners) = false
has_bad_key_count (node.IfNotExists class nulls joiners) = false
has_bad_key_count (node.GroupBy keys collect) = (length keys == 0) || nat_lt 2 (length keys)

-- a node appends a record to its left rows, if only to ask a joiner
abbrev pub appends_record : Node → Bool
appends_record (node.Filter test) = false
appends_record (node.Join class nulls joiners) = true
appends_record (node.IfExists class nulls joiners) = true
appends_record (node.IfNotExists class nulls joiners) = true
appends_record (node.GroupBy keys collect) = false

-- from rows with so many parts on, some node appends a record to rows that have 4 already
abbrev pub lacks_room : ℕ → List Node → Bool
lacks_room parts [] = false
lacks_room parts (first ∷ rest) =
    (appends_record first && nat_le 4 parts) || lacks_room (parts_after parts first) rest

-- a closure wasn't handed in
abbrev pub is_missing : Numbers → Named → Bool
is_missing numbers named = not (is_handed_in numbers named)

-- the first closure that the rule names and that wasn't handed in
abbrev pub missing_closure : Numbers → RuleDef → Option Named
missing_closure numbers rule = find (is_missing numbers) (closures_named rule)

-- what a rule that stands after these is refused for, the first that applies
abbrev pub rule_fault : ℕ → Numbers → List RuleDef → RuleDef → Option RuleFault
rule_fault classes numbers earlier rule =
    let n = length earlier in
    option_or (fault_where (has_bad_name earlier rule) (BadName n))
    (option_or (fault_where (nat_lt weight_limit rule.weight) (WeightRange n))
    (option_or (fault_where (nat_lt 7 (length rule.nodes)) (TooManyNodes n))
    (option_or (option_map (λ class. UnknownClass n class) (unknown_class classes rule))
    (option_or (fault_where (has_too_many_joiners rule) (TooManyJoiners n))
    (option_or (fault_where (list_any has_bad_key_count rule.nodes) (KeyCount n))
    (option_or (fault_where (lacks_room (head_parts rule.head) rule.nodes) (TooManyParts n))
    (option_map (λ named. ClosureMissing n named.kind named.number) (missing_closure numbers rule))))))))

-- the number is that of an earlier closure of this kind
abbrev pub number_fault : ClosureKind → List ℕ → ℕ → Option RuleFault
number_fault kind earlier number = fault_where (list_any (λ n. n == number) earlier) (DoubleClosure kind number)

-- the first closure of a kind with the number of an earlier one
abbrev pub double_closure : ClosureKind → List ℕ → Option RuleFault
double_closure kind numbers = first_fault (number_fault kind) [] numbers

-- what closures are refused for: tests first, then keys, then weighers
abbrev pub closures_fault : Numbers → Option RuleFault
closures_fault numbers =
    option_or (double_closure kind.Test numbers.tests)
    (option_or (double_closure kind.Key numbers.keys)
    (double_closure kind.Weigh numbers.weighs))

-- what rules over so many classes are refused for, where the closures have distinct numbers
abbrev pub defs_fault : ℕ → Numbers → List RuleDef → Option RuleFault
defs_fault classes numbers rules =
    option_or (fault_where (nat_lt 32 (length rules)) TooManyRules)
    (first_fault (rule_fault classes numbers) [] rules)

-- the class with this number is there and has variables, so that its facts are entities
abbrev pub has_entities : List ClassDef → ℕ → Bool
has_entities schema class = option_map_or (λ c. nat_lt 0 (length c.vars)) (slice_get schema class) false

-- a harder key's class has no entities or is that of an earlier one, or the key wasn't handed in
abbrev pub is_bad_harder : List ClassDef → Numbers → List Harder → Harder → Bool
is_bad_harder schema numbers earlier harder =
    not (has_entities schema harder.class)
    || list_any (λ other. other.class == harder.class) earlier
    || is_missing numbers (key_named harder.key)

-- what a harder key that stands after these is refused for
abbrev pub harder_fault : List ClassDef → Numbers → List Harder → Harder → Option RuleFault
harder_fault schema numbers earlier harder =
    fault_where (is_bad_harder schema numbers earlier harder) (BadHarder harder.class)

-- what harder keys are refused for: the first bad one
abbrev pub harders_fault : List ClassDef → Numbers → List Harder → Option RuleFault
harders_fault schema numbers harders = first_fault (harder_fault schema numbers) [] harders

-- what rules over these classes are refused for, the first that applies
unfoldable pub rules_fault : List ClassDef → Numbers → List RuleDef → List Harder → Option RuleFault
rules_fault schema numbers rules harders =
    option_or (closures_fault numbers)
    (option_or (defs_fault (length schema) numbers rules)
    (harders_fault schema numbers harders))
