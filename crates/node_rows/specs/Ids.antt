-- The ids of a row's records, which the closures of the tests ask.
use Rattle.std.specs.Prelude.{ℕ, List, slice_get}
use Rattle.std.specs.Option.{option_map_or}
use Rattle.plan_rules.specs.declared.row.Part.{Part}
use Rattle.plan_rules.specs.declared.row.Part.TheVariants.{Fact, Num}

-- the id of the record that a part is, or 0
abbrev pub id_of : Part → ℕ
id_of (Fact rec) = rec.id
id_of (Num number) = 0

-- the id of the record at a place of a row, or 0
abbrev pub id_at : List Part → ℕ → ℕ
id_at row place = option_map_or id_of (slice_get row place) 0
