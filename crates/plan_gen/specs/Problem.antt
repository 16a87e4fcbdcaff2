-- The facts of a generated timetable problem, as lists. Places are counted from 0, ids from 1.
use Rattle.std.specs.Prelude.{ℕ, ◌+◌, ◌*◌, ◌/◌, ◌%◌, List, map, min}
use Rattle.std.specs.List.{range_with_len}
use Rattle.plan_gen.specs.Draw.{draw}
use Rattle.plan_gen.specs.declared.facts.Timeslot.{Timeslot}
use Rattle.plan_gen.specs.declared.facts.Room.{Room}
use Rattle.plan_gen.specs.declared.facts.Lesson.{Lesson}

-- an hour, from minute 480 of a day on, eight hours a day
abbrev pub timeslot : ℕ → Timeslot
timeslot place =
    let start = 480 + 60 * (place % 8) in
    record { id = place + 1; day = place / 8 + 1; start = start; end = start + 60 }

-- each room holds 30
abbrev pub room : ℕ → Room
room place = record { id = place + 1; capacity = 30 }

-- the lesson at a place takes the four draws from 4 * place on: its subject, teacher, group and size
abbrev pub lesson : ℕ → ℕ → ℕ → Lesson
lesson number size place = record {
  id = place + 1;
  subject = draw number (4 * place) 8;
  teacher = draw number (4 * place + 1) ((size + 9) / 10);
  group = draw number (4 * place + 2) ((size + 19) / 20);
  size = 15 + draw number (4 * place + 3) 16;
}

-- a timeslot for each lesson, at most 40
abbrev pub timeslots : ℕ → List Timeslot
timeslots size = map timeslot (range_with_len 0 (min 40 size))

-- a room for each 20 lessons, at most 20
abbrev pub rooms : ℕ → List Room
rooms size = map room (range_with_len 0 (min 20 ((size + 19) / 20)))

-- as many lessons as the size says
abbrev pub lessons : ℕ → ℕ → List Lesson
lessons number size = map (lesson number size) (range_with_len 0 size)
