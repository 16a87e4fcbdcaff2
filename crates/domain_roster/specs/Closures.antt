-- What the roster's tests, keys and weighers answer at a row, by their numbers.
use Rattle.std.specs.Prelude.{◌==◌, ℕ, ℤ, pos, ◌+ℤ◌, ◌-ℤ◌, int_lt, Bool, false, List, Option, Some, None, if◌then◌else◌}
use Rattle.plan_rules.specs.declared.row.Part.{Part}
use Rattle.domain_words.specs.Read.{number_at}
use Rattle.domain_words.specs.Numbers.{both, is_above, are_different, excess_weight, key_or_zero}
use Rattle.domain_roster.specs.Shifts.{day_minutes, day_at, next_day_at, start_at, end_at, minutes_at, duration_at}
use Rattle.domain_roster.specs.Shifts.{skill_at, worker_at, worker_skill_at, is_open_at}
use Rattle.domain_roster.specs.Shifts.{employee_at, max_at, asking_employee_at, asked_day_at}
use Rattle.domain_roster.specs.Names.{by_worker, by_day, by_next_day, by_start, by_end, by_minutes, by_duration}
use Rattle.domain_roster.specs.Names.{by_employee, by_asking_employee, by_asked_day, by_first_number}
use Rattle.domain_roster.specs.Names.{skills_differ, rest_is_short, shifts_are_too_many, days_are_too_many}
use Rattle.domain_roster.specs.Names.{minutes_are_too_many, begins_early, ends_late, has_no_worker}
use Rattle.domain_roster.specs.Names.{by_shifts_too_many, by_days_too_many, by_minutes_too_many}

-- the first shift asks for another skill than its worker has
abbrev pub do_skills_differ : List Part → Bool
do_skills_differ row = both are_different (skill_at row 0) (worker_skill_at row 0)

-- from a minute of one day to a minute of the next there are fewer than 600
abbrev pub leaves_short_rest : ℤ → ℤ → Bool
leaves_short_rest from up_to = int_lt (up_to +ℤ pos day_minutes -ℤ from) (pos 600)

-- fewer than 600 minutes lie between the first shift and the second one, on the next day
abbrev pub is_rest_short : List Part → Bool
is_rest_short row = both leaves_short_rest (end_at row 0) (start_at row 1)

-- the second part is a number above what the employee in the third may have
abbrev pub are_shifts_too_many : List Part → Bool
are_shifts_too_many row = both is_above (number_at row 1) (max_at row 2)

-- the second part is a number above 5
abbrev pub are_days_too_many : List Part → Bool
are_days_too_many row = both is_above (number_at row 1) (Some (pos 5))

-- the second part is a number above 2400
abbrev pub are_minutes_too_many : List Part → Bool
are_minutes_too_many row = both is_above (number_at row 1) (Some (pos 2400))

-- the third part is a number below 360
abbrev pub does_begin_early : List Part → Bool
does_begin_early row = both is_above (Some (pos 360)) (number_at row 2)

-- the third part is a number above 1320
abbrev pub does_end_late : List Part → Bool
does_end_late row = both is_above (number_at row 2) (Some (pos 1320))

-- the answer of a test, which is false where there is no test with this number
abbrev pub roster_test : ℕ → List Part → Bool
roster_test number row =
    if number == skills_differ then do_skills_differ row else
    (if number == rest_is_short then is_rest_short row else
    (if number == shifts_are_too_many then are_shifts_too_many row else
    (if number == days_are_too_many then are_days_too_many row else
    (if number == minutes_are_too_many then are_minutes_too_many row else
    (if number == begins_early then does_begin_early row else
    (if number == ends_late then does_end_late row else
    (if number == has_no_worker then is_open_at row 0 else
    false)))))))

-- the number that a key reads, none where there is no key with this number
abbrev pub roster_number : ℕ → List Part → Option ℤ
roster_number number row =
    if number == by_worker then worker_at row 0 else
    (if number == by_day then day_at row 0 else
    (if number == by_next_day then next_day_at row 0 else
    (if number == by_start then start_at row 0 else
    (if number == by_end then end_at row 0 else
    (if number == by_employee then employee_at row 0 else
    (if number == by_asking_employee then asking_employee_at row 0 else
    (if number == by_asked_day then asked_day_at row 0 else
    (if number == by_minutes then Some (pos (minutes_at row 0)) else
    (if number == by_first_number then number_at row 0 else
    (if number == by_duration then Some (pos (duration_at row 0)) else
    None))))))))))

-- the answer of a key: the number that it reads, brought into the range of keys, and 0 where there is none
abbrev pub roster_key : ℕ → List Part → ℤ
roster_key number row = key_or_zero (roster_number number row)

-- how far the second part, a number, is above what the employee in the third may have, at most 10,000
abbrev pub shifts_too_many : List Part → ℕ
shifts_too_many row = excess_weight (number_at row 1) (max_at row 2)

-- how far the second part, a number, is above 5, at most 10,000
abbrev pub days_too_many : List Part → ℕ
days_too_many row = excess_weight (number_at row 1) (Some (pos 5))

-- how far the second part, a number, is above 2400, at most 10,000
abbrev pub minutes_too_many : List Part → ℕ
minutes_too_many row = excess_weight (number_at row 1) (Some (pos 2400))

-- the answer of a weigher, which is 0 where there is no weigher with this number
abbrev pub roster_weight : ℕ → List Part → ℕ
roster_weight number row =
    if number == by_shifts_too_many then shifts_too_many row else
    (if number == by_days_too_many then days_too_many row else
    (if number == by_minutes_too_many then minutes_too_many row else
    0))
