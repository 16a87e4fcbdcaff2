-- The domains that come with the solver, as reading sees them.
use Rattle.std.specs.Prelude.{ℕ, List, [], ◌∷◌, Option, codes}
use Rattle.plan_facts.specs.Plan.{PlanView}
use Rattle.plan_facts.specs.declared.record.ClassDef.{ClassDef}
use Rattle.plan_moves.specs.declared.edit.Set.{Set}
use Rattle.plan_rules.specs.declared.places.Numbers.{Numbers}
use Rattle.plan_rules.specs.declared.rule.Harder.{Harder}
use Rattle.plan_rules.specs.declared.rule.RuleDef.{RuleDef}
use Rattle.plan_json.specs.Domains.{DomainView}
use Rattle.domain_timetable.specs.Moves.{timetable_made}
use Rattle.domain_timetable.specs.Names.{timetable_numbers}
use Rattle.domain_timetable.specs.Tables.{timetable_classes, timetable_rules, timetable_harder}
use Rattle.domain_roster.specs.Moves.{roster_made}
use Rattle.domain_roster.specs.Names.{roster_numbers}
use Rattle.domain_roster.specs.Tables.{roster_classes, roster_rules, roster_harder, open_classes, open_rules}
use Rattle.shipped_domains.specs.Numbered.{caps_by}

-- a domain of these parts
abbrev pub domain_with : List ℕ → List ClassDef → List RuleDef → List ℕ → List Harder → DomainView
domain_with name classes rules caps harder =
    record { name = name; classes = classes; rules = rules; caps = caps; harder = harder }

-- the domain of this name, these classes, rules and harder keys, whose closures have these numbers
abbrev pub shipped : List ℕ → List ClassDef → List RuleDef → Numbers → List Harder → DomainView
shipped name classes rules numbers harder = domain_with name classes rules (caps_by numbers rules) harder

-- the timetable
unfoldable pub timetable : DomainView
timetable = shipped (codes "timetable") timetable_classes timetable_rules timetable_numbers timetable_harder

-- the roster
unfoldable pub roster : DomainView
roster = shipped (codes "roster") roster_classes roster_rules roster_numbers roster_harder

-- the roster whose shifts may stay open
unfoldable pub open_roster : DomainView
open_roster = shipped (codes "open_roster") open_classes open_rules roster_numbers roster_harder

-- the domains, in the order in which a problem's domain is looked for
abbrev pub catalog : List DomainView
catalog = timetable ∷ roster ∷ open_roster ∷ []

-- what each maker of moves of each domain makes of a plan and eight words: each domain has one
abbrev pub catalog_made : PlanView → List ℕ → List (List (Option (List Set)))
catalog_made plan words =
    (timetable_made plan words ∷ []) ∷ (roster_made plan words ∷ []) ∷ (roster_made plan words ∷ []) ∷ []
