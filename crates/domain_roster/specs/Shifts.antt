-- What the roster's closures read off a row, from its place: none where the row has no such record there, or one with a
-- null variable.
use Rattle.std.specs.Prelude.{ℕ, ℤ, pos, ◌+ℤ◌, Bool, List, Option, option_map}
use Rattle.std.specs.Option.{option_or}
use Rattle.std.specs.Int.{int_min}
use Rattle.plan_facts.specs.Limits.{field_limit}
use Rattle.plan_rules.specs.declared.row.Part.{Part}
use Rattle.domain_words.specs.Read.{field_at, given_field_at, held_field_at, held_id_at, id_at, is_null_at}
use Rattle.domain_words.specs.Numbers.{clipped_excess}
use Rattle.domain_roster.specs.Names.{employee, shift, leave, wish}

-- the greatest day that a shift may have
abbrev pub greatest_day : ℕ
greatest_day = field_limit

-- how many minutes a day has
abbrev pub day_minutes : ℕ
day_minutes = 1440

-- the day of the shift at a place
abbrev pub day_at : List Part → ℕ → Option ℤ
day_at row place = field_at row place shift 0

-- the day after it, or the greatest day where that is less
abbrev pub next_day_at : List Part → ℕ → Option ℤ
next_day_at row place = option_map (λ day. int_min (day +ℤ pos 1) (pos greatest_day)) (day_at row place)

-- the minute at which the shift starts
abbrev pub start_at : List Part → ℕ → Option ℤ
start_at row place = field_at row place shift 1

-- the minute at which it ends
abbrev pub end_at : List Part → ℕ → Option ℤ
end_at row place = field_at row place shift 2

-- how many minutes the shift lasts: from 0 to a whole day, and 0 where there is no shift
abbrev pub minutes_at : List Part → ℕ → ℕ
minutes_at row place = clipped_excess day_minutes (end_at row place) (start_at row place)

-- the same of a shift that may have no worker
abbrev pub duration_at : List Part → ℕ → ℕ
duration_at row place = clipped_excess day_minutes (given_field_at row place shift 2) (given_field_at row place shift 1)

-- the skill that the shift asks for
abbrev pub skill_at : List Part → ℕ → Option ℤ
skill_at row place = field_at row place shift 3

-- the id of its worker
abbrev pub worker_at : List Part → ℕ → Option ℤ
worker_at row place = held_id_at row place shift 0

-- the skill of its worker
abbrev pub worker_skill_at : List Part → ℕ → Option ℤ
worker_skill_at row place = held_field_at row place shift 0 0

-- the shift at a place has no worker
abbrev pub is_open_at : List Part → ℕ → Bool
is_open_at row place = is_null_at row place shift 0

-- the id of the employee at a place
abbrev pub employee_at : List Part → ℕ → Option ℤ
employee_at row place = id_at row place employee

-- how many shifts that employee may have
abbrev pub max_at : List Part → ℕ → Option ℤ
max_at row place = field_at row place employee 1

-- the employee that the leave or wish at a place names
abbrev pub asking_employee_at : List Part → ℕ → Option ℤ
asking_employee_at row place = option_or (field_at row place leave 0) (field_at row place wish 0)

-- the day of the leave or wish at a place
abbrev pub asked_day_at : List Part → ℕ → Option ℤ
asked_day_at row place = option_or (field_at row place leave 1) (field_at row place wish 1)
