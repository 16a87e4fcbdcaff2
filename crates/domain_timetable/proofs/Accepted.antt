-- The timetable's tables are accepted.
use Rattle.std.proofs.Common.{◌≡◌, None, refl}
use Rattle.plan_rules.specs.Faults.{rules_fault}
use Rattle.domain_timetable.specs.Names.{timetable_numbers}
use Rattle.domain_timetable.specs.Tables.{timetable_classes, timetable_rules, timetable_harder}

-- the rules are accepted over its classes with all its closures and its harder keys
pub rules_accepted : rules_fault timetable_classes timetable_numbers timetable_rules timetable_harder ≡ None
unfolding rules_fault
rules_accepted = refl
