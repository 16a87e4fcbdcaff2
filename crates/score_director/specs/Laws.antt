-- Laws of all rules of a network.
use Rattle.std.specs.Prelude.{◌≡◌, ℕ, All, List, None}
use Rattle.std.specs.List.{AllZip}
use Rattle.plan_facts.specs.declared.record.ClassDef.{ClassDef}
use Rattle.plan_rules.specs.declared.places.Numbers.{Numbers}
use Rattle.plan_rules.specs.declared.rule.Harder.{Harder}
use Rattle.plan_rules.specs.declared.rule.RuleDef.{RuleDef}
use Rattle.plan_rules.specs.Faults.{rules_fault}
use Rattle.plan_rules.specs.Meaning.{Meaning}
use Rattle.plan_rules.specs.Rows.{Facts}
use Rattle.stream_heads.specs.Meant.{Extends, Rows}
use Rattle.head_changes.specs.declared.changes.ClassChange.{ClassChange}
use Rattle.head_changes.specs.Changes.{led_by}
use Rattle.head_changes.specs.Takers.{HeadsHold, Takers}
use Rattle.score_director.specs.declared.rule.RuleAhead.{RuleAhead}
use Rattle.score_director.specs.declared.rule.RuleNet.{RuleNet}
use Rattle.score_director.specs.Net.{AreNetsOf, IsInRange, RulesHold, weights_of}
use Rattle.score_director.specs.Rule.{AsksKnown, FindsFrom, ForeseesFrom, KnowsClasses, StoresAll}
use Rattle.score_director.specs.Turning.{FactsLead}

-- what is known of the nodes of all rules
pub record AreRulesOf (changes : List ClassChange) (sizes : List ℕ) (defs : List RuleDef) (nets : List RuleNet) : Type 0
  where
    pub are : AreNetsOf defs nets
    pub know : All (KnowsClasses changes changes) nets
    pub range : All (IsInRange sizes) defs

-- the sums that are found of all rules are those of the later facts
abbrev pub AllForesee : Type 0
AllForesee = (m : Meaning) (heads more : Rows) (changes : List ClassChange) (takers : Takers) (facts later : Facts)
    → (sizes : List ℕ) (defs : List RuleDef) (nets : List RuleNet) (totals : List ℕ)
    → FactsLead heads more changes takers facts later sizes → AreRulesOf changes sizes defs nets
    → RulesHold m heads takers defs nets → AllZip (ForeseesFrom m more changes changes) nets totals
    → totals ≡ weights_of m later defs

-- rules that stored what was found stand for the later records, also once those that went are let go
abbrev pub AllTurn : Type 0
AllTurn = (m : Meaning) (heads more rest : Rows) (changes : List ClassChange) (takers : Takers) (facts later : Facts)
    → (sizes : List ℕ) (defs : List RuleDef) (nets news : List RuleNet) (found : List RuleAhead)
    → FactsLead heads more changes takers facts later sizes → AreRulesOf changes sizes defs nets
    → RulesHold m heads takers defs nets → AllZip (FindsFrom m more changes changes) nets found
    → StoresAll changes changes nets news found
    → Extends rest more → HeadsHold rest (led_by changes takers) later
    → RulesHold m rest (led_by changes takers) defs news

-- the closures that the nodes of accepted rules ask were handed in
abbrev pub AllAskKnown : Type 0
AllAskKnown = (schema : List ClassDef) (numbers : Numbers) (defs : List RuleDef) (harders : List Harder)
    → (nets : List RuleNet) → rules_fault schema numbers defs harders ≡ None → AreNetsOf defs nets
    → All (AsksKnown numbers) nets
