use Rattle.std.specs.Prelude.{◌≡◌, ℕ, List, [], ◌∷◌, take, length, refl}
use Rattle.std.proofs.Common.{sym, ap, ◌∙◌, arith, length-take-le}
use Rattle.stream_heads.specs.declared.cells.Cell.{Cell}
use Rattle.stream_heads.specs.Filled.{IsFilled, filled}

length-filled : (cells : List Cell) → length (filled cells) ≡ 4
length-filled [] = refl
length-filled (a ∷ []) = refl
length-filled (a ∷ b ∷ []) = refl
length-filled (a ∷ b ∷ c ∷ []) = refl
length-filled (a ∷ b ∷ c ∷ d ∷ rest) = refl

-- the cells of a row give its fields back
pub row_back : (len : ℕ) (cells : List Cell) → IsFilled len cells
    → (filled (take len cells) ≡ cells) × (length (take len cells) ≡ len)
row_back len cells is =
    let four = ap length is.rest ∙ length-filled (take len cells) in
    let short = is.short in
    (sym is.rest, length-take-le len cells (omega arith))
