-- The nodes of rules without rows.
use Rattle.std.specs.Prelude.{◌≡◌, ◌++◌, ℕ, false, List, [], ◌∷◌, map}
use Rattle.std.specs.List.{AllZip}
use Rattle.std.specs.FinMap as finmap
use Rattle.plan_rules.specs.declared.rule.Head.{Head}
use Rattle.plan_rules.specs.declared.rule.Head.TheVariants as head
use Rattle.plan_rules.specs.declared.rule.Node.{Node}
use Rattle.plan_rules.specs.declared.rule.Node.TheVariants as node
use Rattle.plan_rules.specs.declared.rule.RuleDef.{RuleDef}
use Rattle.plan_rules.specs.Meaning.{Meaning}
use Rattle.plan_rules.specs.Named.{head_class}
use Rattle.plan_rules.specs.Rows.{Facts}
use Rattle.stream_join.specs.Nodes.{empty_filter, empty_join, empty_pairs, right_class, takes_nulls}
use Rattle.stream_exists.specs.Nodes.{empty_exists}
use Rattle.stream_group.specs.Nodes.{empty_group, grouping_in}
use Rattle.stream_end.specs.Ends.{empty_end}
use Rattle.score_director.specs.declared.node.Kind.{Kind}
use Rattle.score_director.specs.declared.node.Kind.TheVariants as kind
use Rattle.score_director.specs.declared.node.NetNode.{NetNode}
use Rattle.score_director.specs.declared.rule.RuleNet.{RuleNet}
use Rattle.score_director.specs.Net.{AreNetsOf, NetView, StandsForFacts}
use Rattle.score_director.specs.Rule.{head_nulls}

-- what a node of a rule is without rows
abbrev pub fresh_kind : Node → Kind
fresh_kind (node.Filter test) = kind.Filter (empty_filter test)
fresh_kind (node.Join class nulls joiners) = kind.Join (empty_join (node.Join class nulls joiners))
fresh_kind (node.IfExists class nulls joiners) = kind.Exists (empty_exists (node.IfExists class nulls joiners))
fresh_kind (node.IfNotExists class nulls joiners) =
    kind.Exists (empty_exists (node.IfNotExists class nulls joiners))
fresh_kind (node.GroupBy keys collect) = kind.Group (empty_group (grouping_in (node.GroupBy keys collect)))

abbrev pub fresh_node : Node → NetNode
fresh_node n = record { class = right_class n; nulls = takes_nulls n; kind = fresh_kind n }

-- the join that a head of pairs is
abbrev pub head_nodes : Head → List NetNode
head_nodes (head.ForEach class) = []
head_nodes (head.ForEachNulls class) = []
head_nodes (head.Pairs class joiners) =
    record { class = class; nulls = false; kind = kind.Join (empty_pairs (head.Pairs class joiners)) } ∷ []

-- the nodes of a rule, without rows
abbrev pub rule_nodes : RuleDef → List NetNode
rule_nodes def = head_nodes def.head ++ map fresh_node def.nodes

-- a rule's nodes and end without rows
pub record IsFreshRule (def : RuleDef) (net : RuleNet) : Type 0 where
  pub class : net.class ≡ head_class def.head
  pub nulls : net.nulls ≡ head_nulls def.head
  pub nodes : net.nodes.items ≡ rule_nodes def
  pub end : net.end ≡ empty_end def.weigh

-- a network for records of so many classes, without any
pub record IsFreshNet (count : ℕ) (defs : List RuleDef) (net : NetView) : Type 0 where
  pub classes : net.classes ≡ count
  pub heads : net.heads ≡ record { now = finmap.empty; base = finmap.empty; is_open = false }
  pub rules : AllZip IsFreshRule defs net.rules
  pub torn : net.is_torn ≡ false

-- no facts at all
abbrev pub no_facts : Facts
no_facts class = []

-- a network without records is one of the rules, and stands for no facts
abbrev pub FreshNetsStandForNothing : Type 0
FreshNetsStandForNothing = (m : Meaning) (classes : ℕ) (defs : List RuleDef) (net : NetView)
    → IsFreshNet classes defs net
    → AreNetsOf defs net.rules × StandsForFacts m defs net.heads.now net.rules no_facts
