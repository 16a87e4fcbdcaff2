-- How the value of a network is kept.
use Rattle.std.specs.Prelude.{Bool, List, ℕ, refl}
use Rattle.std.specs.Coded.{Coded, code_by, coded_bool, coded_list, coded_ℕ, coded×}
use Rattle.plan_rules.specs.declared.row.Part.{Part}
use Rattle.tuple_store.specs.View.{StoreView}
use Rattle.stream_heads.specs.Codes.{heads_code}
use Rattle.score_director.specs.declared.rule.RuleNet.{RuleNet}
use Rattle.score_director.specs.Net.{NetView}

-- a network is kept as the tuple of its fields
abbrev pub net_code : Coded RuleNet → Coded NetView
net_code rule_code =
    code_by
    (ℕ × (StoreView (List Part) × (List RuleNet × Bool)))
    (coded× coded_ℕ (coded× heads_code (coded× (coded_list rule_code) coded_bool)))
    (λ v. (v.classes, (v.heads, (v.rules, v.is_torn))))
    (λ p. record { classes = p.0; heads = p.1.0; rules = p.1.1.0; is_torn = p.1.1.1 })
    (λ _. refl)
