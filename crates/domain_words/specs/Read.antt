-- What can be read off a row: its records, their fields and what their variables hold, and its numbers.
use Rattle.std.specs.Prelude.{◌==◌, ℕ, ℤ, pos, Bool, false, List, slice_get, if◌then◌else◌}
use Rattle.std.specs.Prelude.{Option, Some, None, is_none, option_map, option_and_then}
use Rattle.std.specs.Option.{option_flatten, option_map_or}
use Rattle.plan_facts.specs.declared.record.Rec.{Rec}
use Rattle.plan_facts.specs.declared.record.Value.{Value}
use Rattle.plan_rules.specs.declared.row.Part.{Part}
use Rattle.plan_rules.specs.declared.row.Part.TheVariants.{Fact, Num}
use Rattle.plan_rules.specs.Rows.{is_placed}

-- a part as a record of this class
abbrev pub as_record : ℕ → Part → Option Rec
as_record class (Fact rec) = if rec.class == class then Some rec else None
as_record class (Num number) = None

-- a part as a number
abbrev pub as_number : Part → Option ℤ
as_number (Fact rec) = None
as_number (Num number) = Some number

-- a record, but none where a variable of it is null
abbrev pub if_placed : Rec → Option Rec
if_placed rec = if is_placed rec then Some rec else None

-- a variable of a record is there, and null
abbrev pub is_null_in : ℕ → Rec → Bool
is_null_in var rec = option_map_or is_none (slice_get rec.planned var) false

-- the record of this class at a place of a row, from 0, be its variables null or not
abbrev pub record_at : List Part → ℕ → ℕ → Option Rec
record_at row place class = option_and_then (as_record class) (slice_get row place)

-- the record at a place, but none where a variable of it is null
abbrev pub placed_at : List Part → ℕ → ℕ → Option Rec
placed_at row place class = option_and_then if_placed (record_at row place class)

-- the number at a place
abbrev pub number_at : List Part → ℕ → Option ℤ
number_at row place = option_and_then as_number (slice_get row place)

-- the id of the record at a place, where it has no null variable
abbrev pub id_at : List Part → ℕ → ℕ → Option ℤ
id_at row place class = option_map (λ rec. pos rec.id) (placed_at row place class)

-- a field of the record at a place, where it has no null variable
abbrev pub field_at : List Part → ℕ → ℕ → ℕ → Option ℤ
field_at row place class field = option_and_then (λ rec. slice_get rec.fields field) (placed_at row place class)

-- a field of the record at a place, be its variables null or not
abbrev pub given_field_at : List Part → ℕ → ℕ → ℕ → Option ℤ
given_field_at row place class field = option_and_then (λ rec. slice_get rec.fields field) (record_at row place class)

-- a variable of the record at a place is null
abbrev pub is_null_at : List Part → ℕ → ℕ → ℕ → Bool
is_null_at row place class var = option_map_or (is_null_in var) (record_at row place class) false

-- the value that a variable of the record at a place holds, where it has no null variable
abbrev pub value_at : List Part → ℕ → ℕ → ℕ → Option Value
value_at row place class var =
    option_and_then (λ rec. option_flatten (slice_get rec.planned var)) (placed_at row place class)

-- the id of that value
abbrev pub held_id_at : List Part → ℕ → ℕ → ℕ → Option ℤ
held_id_at row place class var = option_map (λ value. pos value.id) (value_at row place class var)

-- a field of that value
abbrev pub held_field_at : List Part → ℕ → ℕ → ℕ → ℕ → Option ℤ
held_field_at row place class var field =
    option_and_then (λ value. slice_get value.fields field) (value_at row place class var)
