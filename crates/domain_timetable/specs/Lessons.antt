-- What the timetable's closures read off a row, from its place: none where the row has no such record there, or one with
-- a null variable.
use Rattle.std.specs.Prelude.{ℕ, ℤ, List, Option}
use Rattle.plan_rules.specs.declared.row.Part.{Part}
use Rattle.domain_words.specs.Read.{field_at, given_field_at, held_field_at, held_id_at}
use Rattle.domain_timetable.specs.Names.{lesson, block}

-- the subject of the lesson at a place
abbrev pub subject_at : List Part → ℕ → Option ℤ
subject_at row place = field_at row place lesson 0

-- its teacher
abbrev pub teacher_at : List Part → ℕ → Option ℤ
teacher_at row place = field_at row place lesson 1

-- its group
abbrev pub group_at : List Part → ℕ → Option ℤ
group_at row place = field_at row place lesson 2

-- how many take part in it
abbrev pub size_at : List Part → ℕ → Option ℤ
size_at row place = field_at row place lesson 3

-- how many take part in the lesson at a place, be its variables null or not
abbrev pub given_size_at : List Part → ℕ → Option ℤ
given_size_at row place = given_field_at row place lesson 3

-- the id of its slot
abbrev pub slot_at : List Part → ℕ → Option ℤ
slot_at row place = held_id_at row place lesson 0

-- the day of its slot
abbrev pub day_at : List Part → ℕ → Option ℤ
day_at row place = held_field_at row place lesson 0 0

-- when its slot starts
abbrev pub start_at : List Part → ℕ → Option ℤ
start_at row place = held_field_at row place lesson 0 1

-- when its slot ends
abbrev pub end_at : List Part → ℕ → Option ℤ
end_at row place = held_field_at row place lesson 0 2

-- the id of its room
abbrev pub room_at : List Part → ℕ → Option ℤ
room_at row place = held_id_at row place lesson 1

-- how many its room holds
abbrev pub capacity_at : List Part → ℕ → Option ℤ
capacity_at row place = held_field_at row place lesson 1 0

-- the teacher of the block at a place
abbrev pub away_teacher_at : List Part → ℕ → Option ℤ
away_teacher_at row place = field_at row place block 0

-- the day of the block at a place
abbrev pub away_day_at : List Part → ℕ → Option ℤ
away_day_at row place = field_at row place block 1
