-- What the closures of the tests answer, by the ids of the records of a row and of their rooms.
use Rattle.std.specs.Prelude.{ℕ, ℤ, ◌+◌, ◌%◌, ◌==◌, nat_lt, min, pos, Bool, List, if◌then◌else◌}
use Rattle.plan_rules.specs.declared.row.Part.{Part}
use Rattle.plan_rules.specs.Meaning.{Meaning}
use Rattle.search_rows.specs.Ids.{id_at, room_at}

-- test 0 holds where the ids of a record and of its room are more than 3 together, test 1 where two records have one room,
-- test 2 where a record has none, each other where the ids of the first two records are more than 3 together
abbrev pub test_answer : ℕ → List Part → Bool
test_answer number row =
    if number == 0 then nat_lt 3 (id_at row 0 + room_at row 0)
    else if number == 1 then room_at row 0 == room_at row 1
    else if number == 2 then room_at row 0 == 0 else nat_lt 3 (id_at row 0 + id_at row 1)

-- key 3 is the first id's remainder by 3, each other that by 100
abbrev pub key_answer : ℕ → List Part → ℤ
key_answer number row = if number == 3 then pos (id_at row 0 % 3) else pos (id_at row 0 % 100)

-- a weigher gives the first id, at most 5
abbrev pub weight_answer : List Part → ℕ
weight_answer row = min (id_at row 0) 5

-- what they mean together
abbrev pub by_ids : Meaning
by_ids = record { test_of = test_answer; key_of = key_answer; weight_of = λ number row. weight_answer row }
