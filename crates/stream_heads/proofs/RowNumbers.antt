-- The numbers of a row of four cells.
use Rattle.std.proofs.Common.{◌≡◌, ◌∙◌, ◌<◌, ◌≤◌, ℤ, List, [], ◌∷◌, length, get_or, ap, refl, arith}
use Rattle.stream_heads.specs.declared.cells.Cell.{Cell}
use Rattle.stream_heads.specs.Numbers.{cell_number, row_numbers}

-- four numbers that are those of the cells
of_four : (cells : List Cell) (d : Cell) → 4 ≤ length cells → length cells < 5
    → cell_number (get_or cells 0 d) ∷ cell_number (get_or cells 1 d) ∷ cell_number (get_or cells 2 d) ∷ cell_number (get_or cells 3 d) ∷ [] ≡ row_numbers cells
of_four [] d many few = absurd (omega arith)
of_four (a ∷ []) d many few = absurd (omega arith)
of_four (a ∷ b ∷ []) d many few = absurd (omega arith)
of_four (a ∷ b ∷ c ∷ []) d many few = absurd (omega arith)
of_four (a ∷ b ∷ c ∷ e ∷ []) d many few = refl
of_four (a ∷ b ∷ c ∷ e ∷ f ∷ rest) d many few = absurd (omega arith)

-- the key that was made of them
pub row_of_four : (cells own : List Cell) (k l m n : ℤ) (key : List ℤ) (d : Cell) → 4 ≤ length cells → length cells < 5
    → k ≡ cell_number (get_or cells 0 d) → l ≡ cell_number (get_or cells 1 d) → m ≡ cell_number (get_or cells 2 d) → n ≡ cell_number (get_or cells 3 d)
    → key ≡ k ∷ l ∷ m ∷ n ∷ [] → cells ≡ own → key ≡ row_numbers own
row_of_four cells own k l m n key d many few first second third fourth made is =
    let same : k ∷ l ∷ m ∷ n ∷ [] ≡ cell_number (get_or cells 0 d) ∷ cell_number (get_or cells 1 d) ∷ cell_number (get_or cells 2 d) ∷ cell_number (get_or cells 3 d) ∷ [] = cc in
    made ∙ same ∙ of_four cells d many few ∙ ap row_numbers is
