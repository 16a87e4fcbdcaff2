-- Rows by the four cells that are held of each.
use Rattle.std.proofs.Common.{◌≡◌, ◌∙◌, ℕ, List, take, length, sym, ap}
use Rattle.std.specs.Bool.{Decides}
use Rattle.stream_heads.specs.declared.cells.Cell.{Cell}
use Rattle.stream_heads.specs.Equality.{cells_decide, same_cells}
use Rattle.stream_heads.specs.Filled.{IsFilled, filled}
use Rattle.stream_heads.specs.FilledBack.{row_back}

-- rows of as many cells are the same where all that is held of them is, since the rest is filled up alike
pub held_tell : (n m : ℕ) (xs ys : List Cell) → IsFilled n xs → IsFilled m ys → n ≡ m
    → Decides (same_cells xs ys) (take n xs ≡ take m ys)
held_tell n m xs ys is is' many =
    let decides = cells_decide xs ys in (
      λ same. ap (λ k. take k xs) many ∙ ap (take m) (decides.0 same),
      λ same. decides.1 (is.rest ∙ ap filled same ∙ sym is'.rest),
    )

-- rows that are the same have as many cells
pub many_tell : (n m : ℕ) (xs ys : List Cell) → IsFilled n xs → IsFilled m ys → take n xs ≡ take m ys → n ≡ m
many_tell n m xs ys is is' same = sym (row_back n xs is).1 ∙ ap length same ∙ (row_back m ys is').1
