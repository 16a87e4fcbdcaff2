-- The numbers of a row's parts, which tests read.
use Rattle.std.specs.Prelude.{ℕ, ℤ, Option, Some, None, List, slice_get}
use Rattle.std.specs.Option.{option_map_or}
use Rattle.plan_rules.specs.declared.row.Part.{Part}
use Rattle.plan_rules.specs.declared.row.Part.TheVariants.{Fact, Num}

-- the number that a part is, or none
abbrev pub number_of : Part → Option ℤ
number_of (Fact rec) = None
number_of (Num number) = Some number

-- the number at a place of a row, or none
abbrev pub number_at : List Part → ℕ → Option ℤ
number_at row place = option_map_or number_of (slice_get row place) None
