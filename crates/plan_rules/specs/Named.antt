-- What a rule names: its joiners, classes and closures, and how many parts its rows have.
use Rattle.std.specs.Prelude.{◌+◌, ℕ, List, [], ◌∷◌, ◌++◌, map, Option, Some, None, length, slice_get}
use Rattle.std.specs.List.{flat_map, filter_map}
use Rattle.std.specs.Option.{option_map_or}
use Rattle.plan_rules.specs.declared.rule.Joiner.{Joiner}
use Rattle.plan_rules.specs.declared.rule.Joiner.TheVariants as joiner
use Rattle.plan_rules.specs.declared.rule.Collect.{Collect}
use Rattle.plan_rules.specs.declared.rule.Collect.TheVariants as collect
use Rattle.plan_rules.specs.declared.rule.Head.{Head}
use Rattle.plan_rules.specs.declared.rule.Head.TheVariants as head
use Rattle.plan_rules.specs.declared.rule.Node.{Node}
use Rattle.plan_rules.specs.declared.rule.Node.TheVariants as node
use Rattle.plan_rules.specs.declared.rule.Named.{Named}
use Rattle.plan_rules.specs.declared.rule.RuleDef.{RuleDef}
use Rattle.plan_rules.specs.declared.fault.ClosureKind.TheVariants as kind

-- a test, a key and a weigher, by their numbers
abbrev pub test_named : ℕ → Named
test_named number = record { kind = kind.Test; number = number }

abbrev pub key_named : ℕ → Named
key_named number = record { kind = kind.Key; number = number }

abbrev pub weigher_named : ℕ → Named
weigher_named number = record { kind = kind.Weigh; number = number }

-- the name of a rule; nothing where there is no such rule
abbrev pub rule_name : List RuleDef → ℕ → List ℕ
rule_name rules rule = option_map_or (λ r. r.name) (slice_get rules rule) []

-- the joiners of a head
abbrev pub head_joiners : Head → List Joiner
head_joiners (head.ForEach class) = []
head_joiners (head.ForEachNulls class) = []
head_joiners (head.Pairs class joiners) = joiners

-- the joiners of a node
abbrev pub node_joiners : Node → List Joiner
node_joiners (node.Filter test) = []
node_joiners (node.Join class nulls joiners) = joiners
node_joiners (node.IfExists class nulls joiners) = joiners
node_joiners (node.IfNotExists class nulls joiners) = joiners
node_joiners (node.GroupBy keys collect) = []

-- the class that a head names
abbrev pub head_class : Head → ℕ
head_class (head.ForEach class) = class
head_class (head.ForEachNulls class) = class
head_class (head.Pairs class joiners) = class

-- the class that a node names
abbrev pub node_class : Node → Option ℕ
node_class (node.Filter test) = None
node_class (node.Join class nulls joiners) = Some class
node_class (node.IfExists class nulls joiners) = Some class
node_class (node.IfNotExists class nulls joiners) = Some class
node_class (node.GroupBy keys collect) = None

-- the classes that a rule names, in order
abbrev pub classes_named : RuleDef → List ℕ
classes_named rule = head_class rule.head ∷ filter_map node_class rule.nodes

-- the closures that a joiner names, the left one first
abbrev pub joiner_closures : Joiner → List Named
joiner_closures (joiner.Equal one other) = key_named one ∷ key_named other ∷ []
joiner_closures (joiner.Less one other) = key_named one ∷ key_named other ∷ []
joiner_closures (joiner.LessOrEqual one other) = key_named one ∷ key_named other ∷ []
joiner_closures (joiner.Greater one other) = key_named one ∷ key_named other ∷ []
joiner_closures (joiner.GreaterOrEqual one other) = key_named one ∷ key_named other ∷ []
joiner_closures (joiner.Filtering test) = test_named test ∷ []

-- the closures that a collector names
abbrev pub collect_closures : Collect → List Named
collect_closures collect.Count = []
collect_closures (collect.CountDistinct key) = key_named key ∷ []
collect_closures (collect.Sum key) = key_named key ∷ []
collect_closures (collect.Min key) = key_named key ∷ []
collect_closures (collect.Max key) = key_named key ∷ []

-- the closures that a node names, in order
abbrev pub node_closures : Node → List Named
node_closures (node.Filter test) = test_named test ∷ []
node_closures (node.Join class nulls joiners) = flat_map joiner_closures joiners
node_closures (node.IfExists class nulls joiners) = flat_map joiner_closures joiners
node_closures (node.IfNotExists class nulls joiners) = flat_map joiner_closures joiners
node_closures (node.GroupBy keys collect) = map key_named keys ++ collect_closures collect

-- the weigher that a rule names
abbrev pub weigh_closures : Option ℕ → List Named
weigh_closures None = []
weigh_closures (Some number) = weigher_named number ∷ []

-- the closures that a rule names, in the order of head, nodes and weigher
abbrev pub closures_named : RuleDef → List Named
closures_named rule =
    flat_map joiner_closures (head_joiners rule.head)
    ++ flat_map node_closures rule.nodes
    ++ weigh_closures rule.weigh

-- how many parts a head's rows have
abbrev pub head_parts : Head → ℕ
head_parts (head.ForEach class) = 1
head_parts (head.ForEachNulls class) = 1
head_parts (head.Pairs class joiners) = 2

-- how many parts the rows after a node have, from those before it
abbrev pub parts_after : ℕ → Node → ℕ
parts_after parts (node.Filter test) = parts
parts_after parts (node.Join class nulls joiners) = parts + 1
parts_after parts (node.IfExists class nulls joiners) = parts
parts_after parts (node.IfNotExists class nulls joiners) = parts
parts_after parts (node.GroupBy keys collect) = length keys + 1
