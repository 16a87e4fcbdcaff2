-- The numbers by which rows are looked up.
use Rattle.std.specs.Prelude.{ℤ, pos, ◌-◌, ◌^◌, nat_lt, List, [], ◌∷◌, map, if◌then◌else◌}
use Rattle.plan_rules.specs.declared.row.Part.{Part}
use Rattle.plan_rules.specs.declared.row.Part.TheVariants.{Fact, Num}
use Rattle.stream_heads.specs.declared.cells.Cell.{Cell}
use Rattle.stream_heads.specs.declared.cells.Cell.TheVariants as cell

-- the number of a cell: the number itself, or the place, as far as it fits
abbrev pub cell_number : Cell → ℤ
cell_number (cell.Place n) = if nat_lt n (2 ^ 63) then pos n else pos (2 ^ 63 - 1)
cell_number (cell.Num n) = n

-- the numbers by which a row is looked up: those of its cells, and a zero behind two, so that rows of two places do not
-- stand where two very small numbers do
abbrev pub row_numbers : List Cell → List ℤ
row_numbers [] = []
row_numbers (one ∷ []) = cell_number one ∷ []
row_numbers (one ∷ other ∷ []) = cell_number one ∷ cell_number other ∷ pos 0 ∷ []
row_numbers (one ∷ other ∷ next ∷ rest) =
    cell_number one ∷ cell_number other ∷ cell_number next ∷ map cell_number rest

-- the numbers of a record's row: those of its class and id
abbrev pub head_numbers : List Part → List ℤ
head_numbers [] = []
head_numbers (Num n ∷ rest) = []
head_numbers (Fact rec ∷ rest) = pos rec.class ∷ pos rec.id ∷ []
