-- What the closures of the tests answer, by the ids of the records of a row.
use Rattle.std.specs.Prelude.{ℕ, ℤ, ◌%◌, ◌==◌, nat_lt, min, pos, Bool, List, if◌then◌else◌}
use Rattle.plan_rules.specs.declared.row.Part.{Part}
use Rattle.plan_rules.specs.Meaning.{Meaning}
use Rattle.node_rows.specs.Ids.{id_at}

-- test 2 holds where the first id is below 2, test 3 where it is below 3, each other where it is below the second
abbrev pub test_answer : ℕ → List Part → Bool
test_answer number row =
    if number == 2 then nat_lt (id_at row 0) 2
    else if number == 3 then nat_lt (id_at row 0) 3 else nat_lt (id_at row 0) (id_at row 1)

-- key 2 is the first id's remainder by 2, key 3 that by 3, each other that by 100
abbrev pub key_answer : ℕ → List Part → ℤ
key_answer number row =
    if number == 2 then pos (id_at row 0 % 2)
    else if number == 3 then pos (id_at row 0 % 3) else pos (id_at row 0 % 100)

-- a weigher gives the first id, at most 100
abbrev pub weight_answer : List Part → ℕ
weight_answer row = min (id_at row 0) 100

-- what they mean together
abbrev pub by_ids : Meaning
by_ids = record { test_of = test_answer; key_of = key_answer; weight_of = λ number row. weight_answer row }
