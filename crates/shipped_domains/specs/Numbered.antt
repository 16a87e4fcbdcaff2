-- The numbers of the closures of each shipped domain, and the caps that go with them.
use Rattle.std.specs.Prelude.{ℕ, List, [], ◌∷◌, map}
use Rattle.plan_rules.specs.Range.{Capped, cap_of}
use Rattle.plan_rules.specs.declared.places.Numbers.{Numbers}
use Rattle.plan_rules.specs.declared.rule.RuleDef.{RuleDef}
use Rattle.domain_words.specs.Numbers.{weight_cap}
use Rattle.domain_timetable.specs.Names.{timetable_numbers}
use Rattle.domain_roster.specs.Names.{roster_numbers}

-- the numbers of the closures of each domain
abbrev pub numbers_shipped : List Numbers
numbers_shipped = timetable_numbers ∷ roster_numbers ∷ roster_numbers ∷ []

-- weighers of these numbers, each with the same cap
abbrev pub weighers_of : List ℕ → List Capped
weighers_of numbers = map (λ number. record { number = number; cap = weight_cap }) numbers

-- the cap of each rule's match weight, where the weighers have these numbers
abbrev pub caps_by : Numbers → List RuleDef → List ℕ
caps_by numbers rules = map (cap_of (weighers_of numbers.weighs)) rules
