-- What holds of each rule of rules that are accepted.
use Rattle.std.specs.Prelude.{◌≡◌, ◌≤◌, ◌<◌, ℕ, false, IsTrue, IfSome, All, length}
use Rattle.std.specs.List.{flat_map}
use Rattle.plan_rules.specs.declared.places.Numbers.{Numbers}
use Rattle.plan_rules.specs.declared.rule.Named.{Named}
use Rattle.plan_rules.specs.declared.rule.Head.{Head}
use Rattle.plan_rules.specs.declared.rule.Node.{Node}
use Rattle.plan_rules.specs.declared.rule.RuleDef.{RuleDef}
use Rattle.plan_rules.specs.Faults.{is_handed_in, has_bad_key_count, lacks_room}
use Rattle.plan_facts.specs.Limits.{weight_limit}
use Rattle.plan_rules.specs.Named.{head_class, head_joiners, head_parts, joiner_closures, node_class, node_joiners, node_closures, weigh_closures}

-- a closure was handed in
abbrev pub IsHandedIn : Numbers → Named → Type 0
IsHandedIn numbers named = IsTrue (is_handed_in numbers named)

-- a head names a known class, at most 4 joiners, and closures that were handed in
pub record IsSoundHead (classes : ℕ) (numbers : Numbers) (head : Head) : Type 0 where
  pub class : head_class head < classes
  pub joiners : length (head_joiners head) ≤ 4
  pub closures : All (IsHandedIn numbers) (flat_map joiner_closures (head_joiners head))

-- a node names a known class, at most 4 joiners, one or two keys, and closures that were handed in
pub record IsSoundNode (classes : ℕ) (numbers : Numbers) (node : Node) : Type 0 where
  pub class : IfSome (node_class node) (λ class. class < classes)
  pub joiners : length (node_joiners node) ≤ 4
  pub keys : has_bad_key_count node ≡ false
  pub closures : All (IsHandedIn numbers) (node_closures node)

-- a rule has a weight of at most a million, at most 7 nodes, and room for each record that is appended
pub record IsSound (classes : ℕ) (numbers : Numbers) (rule : RuleDef) : Type 0 where
  pub weight : rule.weight ≤ weight_limit
  pub few_nodes : length rule.nodes ≤ 7
  pub room : lacks_room (head_parts rule.head) rule.nodes ≡ false
  pub head : IsSoundHead classes numbers rule.head
  pub nodes : All (IsSoundNode classes numbers) rule.nodes
  pub weigher : All (IsHandedIn numbers) (weigh_closures rule.weigh)
