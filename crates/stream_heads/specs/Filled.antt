-- How the cells of a row are held.
use Rattle.std.specs.Prelude.{◌≡◌, ◌≤◌, ℕ, pos, List, [], ◌∷◌, take}
use Rattle.stream_heads.specs.declared.cells.Cell.{Cell}
use Rattle.stream_heads.specs.declared.cells.Cell.TheVariants as cell

-- what stands where there is no cell
abbrev pub no_cell : Cell
no_cell = cell.Num (pos 0)

-- the cells of a row, filled up to four
abbrev pub filled : List Cell → List Cell
filled [] = no_cell ∷ no_cell ∷ no_cell ∷ no_cell ∷ []
filled (a ∷ []) = a ∷ no_cell ∷ no_cell ∷ no_cell ∷ []
filled (a ∷ b ∷ []) = a ∷ b ∷ no_cell ∷ no_cell ∷ []
filled (a ∷ b ∷ c ∷ []) = a ∷ b ∷ c ∷ no_cell ∷ []
filled (a ∷ b ∷ c ∷ d ∷ rest) = a ∷ b ∷ c ∷ d ∷ []

-- a row has at most four cells, and nothing past them
pub record IsFilled (len : ℕ) (cells : List Cell) : Type 0 where
  pub short : len ≤ 4
  pub rest : cells ≡ filled (take len cells)
