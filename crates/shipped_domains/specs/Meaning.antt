-- What the closures of the shipped domains mean: lower numbers are the timetable's, all others the roster's.
use Rattle.std.specs.Prelude.{ℕ, ℤ, nat_lt, Bool, List, if◌then◌else◌}
use Rattle.plan_rules.specs.Meaning.{Meaning}
use Rattle.plan_rules.specs.declared.row.Part.{Part}
use Rattle.domain_timetable.specs.Closures.{timetable_test, timetable_key, timetable_weight}
use Rattle.domain_roster.specs.Closures.{roster_test, roster_key, roster_weight}

-- the first number of a closure of the roster
abbrev pub first_of_roster : ℕ
first_of_roster = 16

-- the closure is the timetable's
abbrev pub is_of_timetable : ℕ → Bool
is_of_timetable number = nat_lt number first_of_roster

-- the answer of a test
abbrev pub shipped_test : ℕ → List Part → Bool
shipped_test number row = if is_of_timetable number then timetable_test number row else roster_test number row

-- the answer of a key
abbrev pub shipped_key : ℕ → List Part → ℤ
shipped_key number row = if is_of_timetable number then timetable_key number row else roster_key number row

-- the answer of a weigher
abbrev pub shipped_weight : ℕ → List Part → ℕ
shipped_weight number row = if is_of_timetable number then timetable_weight number row else roster_weight number row

-- the meanings together
abbrev pub shipped_meaning : Meaning
shipped_meaning = record { test_of = shipped_test; key_of = shipped_key; weight_of = shipped_weight }
