-- The numbers of the timetable's classes, fields, variables and closures.
use Rattle.std.specs.Prelude.{ℕ, [], ◌∷◌}
use Rattle.plan_rules.specs.declared.places.Numbers.{Numbers}

-- the classes
abbrev pub timeslot : ℕ
timeslot = 0

abbrev pub room : ℕ
room = 1

abbrev pub lesson : ℕ
lesson = 2

abbrev pub block : ℕ
block = 3

-- the keys of a lesson that is placed: its slot's id, its room's id, its teacher, its group, its slot's day, its subject
abbrev pub by_slot : ℕ
by_slot = 0

abbrev pub by_room : ℕ
by_room = 1

abbrev pub by_teacher : ℕ
by_teacher = 2

abbrev pub by_group : ℕ
by_group = 3

abbrev pub by_day : ℕ
by_day = 4

abbrev pub by_subject : ℕ
by_subject = 5

-- the key of a lesson, be it placed or not: how many take part
abbrev pub by_size : ℕ
by_size = 8

-- the keys of a block: its teacher and its day
abbrev pub by_away_teacher : ℕ
by_away_teacher = 6

abbrev pub by_away_day : ℕ
by_away_day = 7

-- the tests
abbrev pub room_is_too_small : ℕ
room_is_too_small = 0

abbrev pub rooms_differ : ℕ
rooms_differ = 1

abbrev pub follows_soon : ℕ
follows_soon = 2

abbrev pub day_is_too_full : ℕ
day_is_too_full = 3

-- the weighers
abbrev pub by_missing_seats : ℕ
by_missing_seats = 0

abbrev pub by_lessons_too_many : ℕ
by_lessons_too_many = 1

-- the numbers of all tests, keys and weighers
abbrev pub timetable_numbers : Numbers
timetable_numbers = record {
  tests = 0 ∷ 1 ∷ 2 ∷ 3 ∷ [];
  keys = 0 ∷ 1 ∷ 2 ∷ 3 ∷ 4 ∷ 5 ∷ 6 ∷ 7 ∷ 8 ∷ [];
  weighs = 0 ∷ 1 ∷ [];
}
