-- What tests read off the parts of rows.
use Rattle.std.specs.Prelude.{ℤ, pos}
use Rattle.plan_rules.specs.declared.row.Part.{Part}
use Rattle.plan_rules.specs.declared.row.Part.TheVariants.{Fact, Num}

-- the number of a part; of a fact its id
abbrev pub part_number : Part → ℤ
part_number (Fact rec) = pos rec.id
part_number (Num number) = number
