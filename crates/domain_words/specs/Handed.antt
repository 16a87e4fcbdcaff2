-- The numbers of the closures that a domain's rules ask.
use Rattle.plan_rules.specs.declared.places.Numbers.{Numbers}
use Rattle.domain_words.specs.declared.handed.ClosureNumbers.{ClosureNumbers}

-- the numbers as rules see them
abbrev pub numbers_in : ClosureNumbers → Numbers
numbers_in lent = record { tests = lent.tests.now; keys = lent.keys.now; weighs = lent.weighers.now }
