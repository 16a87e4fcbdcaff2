-- The group node that a node of a rule is, and what it is without rows.
use Rattle.std.specs.Prelude.{ℕ, false, List, [], Option, slice_get}
use Rattle.std.specs.Option.{option_and_then}
use Rattle.plan_rules.specs.declared.rule.Collect.TheVariants as collect
use Rattle.plan_rules.specs.declared.rule.Node.{Node}
use Rattle.plan_rules.specs.declared.rule.Node.TheVariants as node
use Rattle.plan_rules.specs.declared.rule.RuleDef.{RuleDef}
use Rattle.stream_group.specs.declared.grouping.Grouping.{Grouping}
use Rattle.stream_group.specs.Group.{GroupView}

-- the node of a rule, by the numbers of both
abbrev pub node_at : List RuleDef → ℕ → ℕ → Option Node
node_at defs rule place = option_and_then (λ def. slice_get def.nodes place) (slice_get defs rule)

-- the grouping of a group node
abbrev pub grouping_in : Node → Grouping
grouping_in (node.GroupBy keys collect) = record { keys = keys; collect = collect }
grouping_in (node.Filter test) = record { keys = []; collect = collect.Count }
grouping_in (node.Join class nulls joiners) = record { keys = []; collect = collect.Count }
grouping_in (node.IfExists class nulls joiners) = record { keys = []; collect = collect.Count }
grouping_in (node.IfNotExists class nulls joiners) = record { keys = []; collect = collect.Count }

-- a group node without rows
abbrev pub empty_group : Grouping → GroupView
empty_group by = record { by = by; now = []; base = []; is_open = false; is_torn = false }
