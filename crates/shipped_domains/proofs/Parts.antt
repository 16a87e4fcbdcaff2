-- The parts of which the domains consist.
use Rattle.std.proofs.Common.{◌≡◌, ℕ, List, codes, refl}
use Rattle.plan_facts.specs.declared.record.ClassDef.{ClassDef}
use Rattle.plan_rules.specs.declared.places.Numbers.{Numbers}
use Rattle.plan_rules.specs.declared.rule.Harder.{Harder}
use Rattle.plan_rules.specs.declared.rule.RuleDef.{RuleDef}
use Rattle.domain_timetable.specs.Tables.{timetable_classes, timetable_rules, timetable_harder}
use Rattle.domain_timetable.specs.Names.{timetable_numbers}
use Rattle.domain_roster.specs.Tables.{roster_classes, roster_rules, roster_harder, open_classes, open_rules}
use Rattle.domain_roster.specs.Names.{roster_numbers}
use Rattle.shipped_domains.specs.Catalog.{shipped, timetable, roster, open_roster}

-- domains whose parts are the same are the same
pub shipped_same : {classes classes' : List ClassDef} {rules rules' : List RuleDef} {numbers numbers' : Numbers} {harder harder' : List Harder} (name : List ℕ) → classes ≡ classes' → rules ≡ rules' → numbers ≡ numbers' → harder ≡ harder' → shipped name classes rules numbers harder ≡ shipped name classes' rules' numbers' harder'
shipped_same name one other third last = λ i. shipped name (one i) (other i) (third i) (last i)

-- the timetable's name, classes, rules and harder keys
pub timetable_parts : shipped (codes "timetable") timetable_classes timetable_rules timetable_numbers timetable_harder ≡ timetable
unfolding timetable
timetable_parts = refl

-- the roster's
pub roster_parts : shipped (codes "roster") roster_classes roster_rules roster_numbers roster_harder ≡ roster
unfolding roster
roster_parts = refl

-- those of the roster whose shifts may stay open
pub open_roster_parts : shipped (codes "open_roster") open_classes open_rules roster_numbers roster_harder ≡ open_roster
unfolding open_roster
open_roster_parts = refl
