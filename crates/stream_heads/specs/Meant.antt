-- What places mean.
use Rattle.std.specs.Prelude.{◌≡◌, ℕ, Bool, true, List, [], ◌∷◌, map, is_some, length, unwrap_or, None, Option, Some}
use Rattle.std.specs.List.{flat_map, list_all}
use Rattle.std.specs.FinMap as finmap
use Rattle.plan_facts.specs.declared.record.Rec.{Rec}
use Rattle.plan_rules.specs.declared.row.Part.{Part}
use Rattle.plan_rules.specs.declared.row.Part.TheVariants.{Fact, Num}
use Rattle.plan_rules.specs.Rows.{row_of}
use Rattle.stream_heads.specs.declared.cells.Cell.{Cell}
use Rattle.stream_heads.specs.declared.cells.Cell.TheVariants as cell
use Rattle.tuple_store.specs.View.{StoreView}
use Rattle.stream_heads.specs.Standing.{Under}

-- the row of each live place: that of its record
abbrev pub Rows : Type 0
Rows = Under (List Part)

-- the parts that a cell means: none where its place isn't live
abbrev pub parts_at : Rows → Cell → List Part
parts_at heads (cell.Place n) = unwrap_or (finmap.get heads n) []
parts_at heads (cell.Num n) = Num n ∷ []

-- the row that cells mean
abbrev pub row_at : Rows → List Cell → List Part
row_at heads cells = flat_map (parts_at heads) cells

-- the row that cells lend: where they are one live place, what stands there
abbrev pub row_lent : Rows → List Cell → Option (List Part)
row_lent heads (cell.Place place ∷ []) = finmap.get heads place
row_lent heads _ = None

-- the rows that rows of cells mean
abbrev pub meant : Rows → List (List Cell) → List (List Part)
meant heads rows = map (row_at heads) rows

-- a test of the row that cells mean
abbrev pub at_row : Rows → (List Part → Bool) → List Cell → Bool
at_row heads test cells = test (row_at heads cells)

-- the record that a row begins with
abbrev pub record_in : List Part → Rec
record_in [] = record { class = 0; id = 0; fields = []; planned = [] }
record_in (Fact rec ∷ rest) = rec
record_in (Num n ∷ rest) = record { class = 0; id = 0; fields = []; planned = [] }

-- the record that a row means
abbrev pub record_at : Rows → List Cell → Rec
record_at heads row = record_in (row_at heads row)

-- the row is one cell, and means one record
pub record IsOneRecord (heads : Rows) (row : List Cell) : Type 0 where
  pub single : length row ≡ 1
  pub means : row_at heads row ≡ row_of (record_at heads row)

-- each place means the row of one record
abbrev pub AreHeads : Rows → Type 0
AreHeads heads = (n : ℕ) (row : List Part) → finmap.get heads n ≡ Some row → row ≡ row_of (record_in row)

-- now, and before an open trial
pub record KeepsHeads (heads : StoreView (List Part)) : Type 0 where
  pub now : AreHeads heads.now
  pub base : heads.is_open ≡ true → AreHeads heads.base

-- the cell is a number, or its place is live
abbrev pub is_live : Rows → Cell → Bool
is_live heads (cell.Place n) = is_some (finmap.get heads n)
is_live heads (cell.Num n) = true

-- all places of these rows are live
abbrev pub all_live : Rows → List (List Cell) → Bool
all_live heads rows = list_all (λ cells. list_all (is_live heads) cells) rows

-- the rows of one are those of the other, under the same places
abbrev pub Extends : Rows → Rows → Type 0
Extends heads later = (n : ℕ) → is_some (finmap.get heads n) ≡ true → finmap.get later n ≡ finmap.get heads n
