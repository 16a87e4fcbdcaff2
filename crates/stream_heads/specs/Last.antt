-- The row that was read last.
use Rattle.std.specs.Prelude.{◌≡◌, ⊤, List, [], ◌∷◌, MatchOption, length}
use Rattle.plan_rules.specs.declared.row.Part.{Part}
use Rattle.stream_heads.specs.declared.cells.Cell.TheVariants.{Place}
use Rattle.stream_heads.specs.declared.last.LastRow.{LastRow}
use Rattle.stream_heads.specs.declared.last.Pair.{Pair}
use Rattle.stream_heads.specs.Meant.{Rows, parts_at, row_at}

-- the row is that of two live places
pub record IsOfPair (heads : Rows) (pair : Pair) (row : List Part) : Type 0 where
  pub first : length (parts_at heads (Place pair.first)) ≡ 1
  pub second : length (parts_at heads (Place pair.second)) ≡ 1
  pub means : row ≡ row_at heads (Place pair.first ∷ Place pair.second ∷ [])

-- where the places of the row are known, it is theirs
abbrev pub IsReadBy : Rows → LastRow → Type 0
IsReadBy heads last = MatchOption last.pair ⊤ (λ pair. IsOfPair heads pair last.row)
