-- The numbers of the roster's classes and closures.
use Rattle.std.specs.Prelude.{ℕ, [], ◌∷◌}
use Rattle.plan_rules.specs.declared.places.Numbers.{Numbers}

-- the classes
abbrev pub employee : ℕ
employee = 0

abbrev pub shift : ℕ
shift = 1

abbrev pub leave : ℕ
leave = 2

abbrev pub wish : ℕ
wish = 3

-- the keys of a shift that has a worker: its worker's id, its day, the day after it, its start, its end, its minutes
abbrev pub by_worker : ℕ
by_worker = 16

abbrev pub by_day : ℕ
by_day = 17

abbrev pub by_next_day : ℕ
by_next_day = 18

abbrev pub by_start : ℕ
by_start = 19

abbrev pub by_end : ℕ
by_end = 20

abbrev pub by_minutes : ℕ
by_minutes = 24

-- the key of a shift, be there a worker or not: how many minutes it lasts
abbrev pub by_duration : ℕ
by_duration = 26

-- the key of an employee: the id
abbrev pub by_employee : ℕ
by_employee = 21

-- the keys of a leave or wish: the employee that it names, and its day
abbrev pub by_asking_employee : ℕ
by_asking_employee = 22

abbrev pub by_asked_day : ℕ
by_asked_day = 23

-- the key of a row that begins with a number: that number
abbrev pub by_first_number : ℕ
by_first_number = 25

-- the tests
abbrev pub skills_differ : ℕ
skills_differ = 16

abbrev pub rest_is_short : ℕ
rest_is_short = 17

abbrev pub shifts_are_too_many : ℕ
shifts_are_too_many = 18

abbrev pub days_are_too_many : ℕ
days_are_too_many = 19

abbrev pub minutes_are_too_many : ℕ
minutes_are_too_many = 20

abbrev pub begins_early : ℕ
begins_early = 21

abbrev pub ends_late : ℕ
ends_late = 22

abbrev pub has_no_worker : ℕ
has_no_worker = 23

-- the weighers
abbrev pub by_shifts_too_many : ℕ
by_shifts_too_many = 16

abbrev pub by_days_too_many : ℕ
by_days_too_many = 17

abbrev pub by_minutes_too_many : ℕ
by_minutes_too_many = 18

-- the numbers of all tests, keys and weighers
abbrev pub roster_numbers : Numbers
roster_numbers = record {
  tests = 16 ∷ 17 ∷ 18 ∷ 19 ∷ 20 ∷ 21 ∷ 22 ∷ 23 ∷ [];
  keys = 16 ∷ 17 ∷ 18 ∷ 19 ∷ 20 ∷ 21 ∷ 22 ∷ 23 ∷ 24 ∷ 25 ∷ 26 ∷ [];
  weighs = 16 ∷ 17 ∷ 18 ∷ [];
}
