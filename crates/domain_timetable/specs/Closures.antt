-- What the timetable's tests, keys and weighers answer at a row, by their numbers.
use Rattle.std.specs.Prelude.{◌==◌, ℕ, ℤ, pos, Bool, false, List, Option, Some, None, if◌then◌else◌}
use Rattle.plan_rules.specs.declared.row.Part.{Part}
use Rattle.domain_words.specs.Read.{number_at}
use Rattle.domain_words.specs.Numbers.{both, is_above, are_different, is_soon_after, excess_weight, key_or_zero}
use Rattle.domain_timetable.specs.Lessons.{subject_at, teacher_at, group_at, size_at, given_size_at, slot_at}
use Rattle.domain_timetable.specs.Lessons.{day_at, start_at, end_at, room_at, capacity_at, away_teacher_at, away_day_at}
use Rattle.domain_timetable.specs.Names.{by_slot, by_room, by_teacher, by_group, by_day, by_subject, by_size}
use Rattle.domain_timetable.specs.Names.{by_away_teacher, by_away_day, by_missing_seats, by_lessons_too_many}
use Rattle.domain_timetable.specs.Names.{room_is_too_small, rooms_differ, follows_soon, day_is_too_full}

-- more take part in the first lesson than its room holds
abbrev pub is_room_too_small : List Part → Bool
is_room_too_small row = both is_above (size_at row 0) (capacity_at row 0)

-- the first two lessons are in different rooms
abbrev pub do_rooms_differ : List Part → Bool
do_rooms_differ row = both are_different (room_at row 0) (room_at row 1)

-- the second lesson starts when the first one ends, or at most 30 minutes later
abbrev pub does_follow_soon : List Part → Bool
does_follow_soon row = both (is_soon_after 30) (end_at row 0) (start_at row 1)

-- the third part is a number above 6
abbrev pub is_day_too_full : List Part → Bool
is_day_too_full row = both is_above (number_at row 2) (Some (pos 6))

-- the answer of a test, which is false where there is no test with this number
abbrev pub timetable_test : ℕ → List Part → Bool
timetable_test number row =
    if number == room_is_too_small then is_room_too_small row else
    (if number == rooms_differ then do_rooms_differ row else
    (if number == follows_soon then does_follow_soon row else
    (if number == day_is_too_full then is_day_too_full row else
    false)))

-- the number that a key reads, none where there is no key with this number
abbrev pub timetable_number : ℕ → List Part → Option ℤ
timetable_number number row =
    if number == by_slot then slot_at row 0 else
    (if number == by_room then room_at row 0 else
    (if number == by_teacher then teacher_at row 0 else
    (if number == by_group then group_at row 0 else
    (if number == by_day then day_at row 0 else
    (if number == by_subject then subject_at row 0 else
    (if number == by_away_teacher then away_teacher_at row 0 else
    (if number == by_away_day then away_day_at row 0 else
    (if number == by_size then given_size_at row 0 else
    None))))))))

-- the answer of a key: the number that it reads, brought into the range of keys, and 0 where there is none
abbrev pub timetable_key : ℕ → List Part → ℤ
timetable_key number row = key_or_zero (timetable_number number row)

-- how many more take part in the first lesson than its room holds, at most 10,000
abbrev pub missing_seats : List Part → ℕ
missing_seats row = excess_weight (size_at row 0) (capacity_at row 0)

-- how far the third part, a number, is above 6, at most 10,000
abbrev pub lessons_too_many : List Part → ℕ
lessons_too_many row = excess_weight (number_at row 2) (Some (pos 6))

-- the answer of a weigher, which is 0 where there is no weigher with this number
abbrev pub timetable_weight : ℕ → List Part → ℕ
timetable_weight number row =
    if number == by_missing_seats then missing_seats row else
    (if number == by_lessons_too_many then lessons_too_many row else
    0)
