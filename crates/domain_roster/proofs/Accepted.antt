-- The roster's tables are accepted.
use Rattle.std.proofs.Common.{◌≡◌, None, refl}
use Rattle.plan_rules.specs.Faults.{rules_fault}
use Rattle.domain_roster.specs.Names.{roster_numbers}
use Rattle.domain_roster.specs.Tables.{roster_classes, open_classes, roster_rules, open_rules, roster_harder}

-- the rules are accepted over its classes with all its closures and its harder keys
pub rules_accepted : rules_fault roster_classes roster_numbers roster_rules roster_harder ≡ None
unfolding rules_fault
rules_accepted = refl

-- the rules of the roster whose shifts may stay open, likewise
pub open_accepted : rules_fault open_classes roster_numbers open_rules roster_harder ≡ None
unfolding rules_fault
open_accepted = refl
