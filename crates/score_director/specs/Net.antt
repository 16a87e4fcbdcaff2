-- The network of all rules, and what it stands for.
use Rattle.std.specs.Prelude.{◌≡◌, ℕ, Bool, false, List, map, sum_by}
use Rattle.std.specs.List.{AllZip}
use Rattle.plan_rules.specs.declared.row.Part.{Part}
use Rattle.plan_rules.specs.declared.rule.RuleDef.{RuleDef}
use Rattle.plan_rules.specs.Faults.{lacks_room}
use Rattle.plan_rules.specs.Meaning.{Meaning}
use Rattle.plan_rules.specs.Named.{head_parts}
use Rattle.plan_rules.specs.Range.{has_too_many_rows}
use Rattle.plan_rules.specs.Rows.{Facts, rule_rows}
use Rattle.plan_rules.specs.Totals.{match_weight}
use Rattle.tuple_store.specs.View.{StoreView}
use Rattle.stream_heads.specs.Meant.{Rows}
use Rattle.head_changes.specs.Takers.{HeadsHold, Takers}
use Rattle.score_director.specs.declared.rule.RuleNet.{RuleNet}
use Rattle.score_director.specs.Rule.{IsNetOf, RuleHolds}
use Rattle.score_director.specs.Stations.{head_cells}

-- a network: how many classes there are, its heads, the nodes of each rule, and whether a change was cut off
pub record NetView : Type 0 where
  pub classes : ℕ
  pub heads : StoreView (List Part)
  pub rules : List RuleNet
  pub is_torn : Bool

-- the nodes of each rule are those that the rule has
abbrev pub AreNetsOf : List RuleDef → List RuleNet → Type 0
AreNetsOf defs nets = AllZip IsNetOf defs nets

-- the nodes of each rule stand for the records that take part
abbrev pub RulesHold : Meaning → Rows → Takers → List RuleDef → List RuleNet → Type 0
RulesHold m heads takers defs nets =
    AllZip (λ def net. RuleHolds m heads takers (head_cells takers def.head) net) defs nets

-- heads and the nodes of each rule stand for facts
pub record StandsForFacts (m : Meaning) (defs : List RuleDef) (heads : Rows) (nets : List RuleNet) (facts : Facts)
    : Type 0 where
  pub takers : Takers
  pub heads_hold : HeadsHold heads takers facts
  pub rules_hold : RulesHold m heads takers defs nets

-- a rule's stream may not have too many rows, and there is room for each record that is put beside a row
pub record IsInRange (sizes : List ℕ) (def : RuleDef) : Type 0 where
  pub few : has_too_many_rows sizes def ≡ false
  pub room : lacks_room (head_parts def.head) def.nodes ≡ false

-- what the matches of a rule weigh together
abbrev pub rule_weight : Meaning → Facts → RuleDef → ℕ
rule_weight m facts def = sum_by (match_weight m def) (rule_rows m facts def)

-- what the matches of each rule weigh together
abbrev pub weights_of : Meaning → Facts → List RuleDef → List ℕ
weights_of m facts defs = map (rule_weight m facts) defs
