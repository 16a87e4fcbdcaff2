-- How a rule is led on where the records of facts turn.
use Rattle.std.specs.Prelude.{◌≡◌, ℕ, List}
use Rattle.plan_rules.specs.declared.rule.RuleDef.{RuleDef}
use Rattle.plan_rules.specs.Meaning.{Meaning}
use Rattle.plan_rules.specs.Range.{AreWithin}
use Rattle.plan_rules.specs.Rows.{Facts}
use Rattle.stream_heads.specs.Meant.{Extends, Rows}
use Rattle.head_changes.specs.declared.changes.ClassChange.{ClassChange}
use Rattle.head_changes.specs.Changes.{led_by}
use Rattle.head_changes.specs.Gathered.{Gathered}
use Rattle.head_changes.specs.Takers.{AreFacts, HeadsHold, Takers}
use Rattle.score_director.specs.declared.rule.RuleAhead.{RuleAhead}
use Rattle.score_director.specs.declared.rule.RuleNet.{RuleNet}
use Rattle.score_director.specs.Net.{IsInRange, rule_weight}
use Rattle.score_director.specs.Rule.{FindsFrom, ForeseesFrom, IsNetOf, KnowsClasses, RuleHolds, StoresRule, head_change}
use Rattle.score_director.specs.Stations.{head_cells}

-- the nodes of a rule stand for the records that take part
abbrev pub HoldsTakers : Meaning → Rows → Takers → RuleDef → RuleNet → Type 0
HoldsTakers m heads takers def net = RuleHolds m heads takers (head_cells takers def.head) net

-- what is known of a rule's nodes
pub record IsRuleOf (changes : List ClassChange) (sizes : List ℕ) (def : RuleDef) (net : RuleNet) : Type 0 where
  pub is : IsNetOf def net
  pub knows : KnowsClasses changes changes net
  pub range : IsInRange sizes def

-- records of facts turn into later ones, of which there are no more than sizes say
pub record FactsLead (heads more : Rows) (changes : List ClassChange) (takers : Takers)
    (facts later : Facts) (sizes : List ℕ) : Type 0 where
  pub hold : HeadsHold heads takers facts
  pub gathered : Gathered heads more changes takers facts later
  pub later_facts : AreFacts later
  pub within : AreWithin sizes later

-- the sum that is found of a rule is that of the later facts
abbrev pub RulesForesee : Type 0
RulesForesee = (m : Meaning) (heads more : Rows) (changes : List ClassChange) (takers : Takers) (facts later : Facts)
    → (sizes : List ℕ) (def : RuleDef) (net : RuleNet) (total : ℕ) (other : ClassChange)
    → FactsLead heads more changes takers facts later sizes → IsRuleOf changes sizes def net
    → HoldsTakers m heads takers def net → ForeseesFrom m more changes changes net total
    → total ≡ rule_weight m later def

-- a rule that stored what was found stands for the later records, also once those that went are let go
abbrev pub RulesTurn : Type 0
RulesTurn = (m : Meaning) (heads more rest : Rows) (changes : List ClassChange) (takers : Takers) (facts later : Facts)
    → (sizes : List ℕ) (def : RuleDef) (net new : RuleNet) (found : RuleAhead) (other : ClassChange)
    → FactsLead heads more changes takers facts later sizes → IsRuleOf changes sizes def net
    → HoldsTakers m heads takers def net → FindsFrom m more changes changes net found
    → StoresRule net new changes (head_change changes other net) found
    → Extends rest more → HeadsHold rest (led_by changes takers) later
    → HoldsTakers m rest (led_by changes takers) def new
