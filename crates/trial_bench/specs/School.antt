-- What the closures of a school's rules read off rows.
use Rattle.std.specs.Prelude.{ℕ, ℤ, List, Option, None, Bool, slice_get, option_and_then}
use Rattle.plan_rules.specs.declared.row.Part.{Part}
use Rattle.plan_rules.specs.declared.row.Part.TheVariants.{Fact, Num}
use Rattle.plan_rules.specs.Meaning.{Meaning}
use Rattle.domain_words.specs.Numbers.{both, are_different, key_or_zero}

-- a field of the record that a part is
abbrev pub field_in : ℕ → Part → Option ℤ
field_in field (Fact rec) = slice_get rec.fields field
field_in field (Num number) = None

-- a field of the record at a place of a row
abbrev pub field_at : List Part → ℕ → ℕ → Option ℤ
field_at row place field = option_and_then (field_in field) (slice_get row place)

-- key n is field n of the first record
abbrev pub key_at : ℕ → List Part → ℤ
key_at field row = key_or_zero (field_at row 0 field)

-- both records have a room, and these differ
abbrev pub rooms_differ : List Part → Bool
rooms_differ row = both are_different (field_at row 0 3) (field_at row 1 3)

-- what the closures mean: each test is that of the rooms, key n reads field n, and each weight is 1
abbrev pub school_meaning : Meaning
school_meaning =
    record {
      test_of = λ number row. rooms_differ row;
      key_of = λ number row. key_at number row;
      weight_of = λ number row. 1;
    }
