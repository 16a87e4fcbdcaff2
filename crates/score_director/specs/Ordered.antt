-- Rows that were put in their order.
use Rattle.std.specs.Prelude.{◌≡◌, List}
use Rattle.plan_rules.specs.declared.row.Part.{Part}
use Rattle.plan_rules.specs.declared.rule.RuleDef.{RuleDef}
use Rattle.plan_rules.specs.Bags.{AreSame}
use Rattle.plan_rules.specs.Meaning.{Meaning}
use Rattle.plan_rules.specs.Order.{AreById}
use Rattle.plan_rules.specs.Rows.{Facts, rule_rows}

-- where the rows before are a rule's but for their order, those after are just the rule's
abbrev pub BecomeRuleRows : List (List Part) → List (List Part) → Type 0
BecomeRuleRows before after =
    (m : Meaning) (facts : Facts) (rule : RuleDef)
    → AreById facts → AreSame before (rule_rows m facts rule) → after ≡ rule_rows m facts rule
