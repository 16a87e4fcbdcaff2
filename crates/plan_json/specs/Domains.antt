-- Domains as reading sees them.
use Rattle.std.specs.Prelude.{ℕ, ℤ, Bool, List}
use Rattle.plan_facts.specs.declared.record.ClassDef.{ClassDef}
use Rattle.plan_rules.specs.declared.rule.RuleDef.{RuleDef}
use Rattle.plan_rules.specs.declared.rule.Harder.{Harder}

-- a domain: its name, classes and rules, the cap of each rule's match weight, and the keys by which its entities are placed
pub record DomainView : Type 0 where
  pub name : List ℕ
  pub classes : List ClassDef
  pub rules : List RuleDef
  pub caps : List ℕ
  pub harder : List Harder
