-- Rows of cells can be told apart.
use Rattle.std.specs.Prelude.{◌≡◌, ◌==◌, Bool, false, List}
use Rattle.std.proofs.Common.{ap}
use Rattle.std.specs.Bool.{Decides}
use Rattle.std.specs.Ordering.{int_eq}
use Rattle.std.specs.Cmp.{signed_Decides, unsigned_Decides}
use Rattle.std.specs.Cmp.Lexicographic.{pointwise, pointwise_decides}
use Rattle.stream_heads.specs.declared.cells.Cell.{Cell}
use Rattle.stream_heads.specs.declared.cells.Cell.TheVariants.{Place, Num}

-- the same place, or the same number
abbrev pub same_cell : Cell → Cell → Bool
same_cell (Place one) (Place other) = one == other
same_cell (Place one) (Num n) = false
same_cell (Num n) (Place other) = false
same_cell (Num one) (Num other) = int_eq one other

-- the same cells
abbrev pub same_cells : List Cell → List Cell → Bool
same_cells one other = pointwise same_cell one other

instead : {P Q : Type 0} (p : Bool) → Decides p P → (P → Q) → (Q → P) → Decides p Q
instead p one to from = (λ is. to (one.0 is), λ q. one.1 (from q))

pub cell_decides : (one other : Cell) → Decides (same_cell one other) (one ≡ other)
cell_decides (Place one) (Place other) = instead (one == other) (unsigned_Decides one other) (ap Place) (λ e. cc)
cell_decides (Place one) (Num n) = (λ is. cc, λ e. cc)
cell_decides (Num n) (Place other) = (λ is. cc, λ e. cc)
cell_decides (Num one) (Num other) = instead (int_eq one other) (signed_Decides one other) (ap Num) (λ e. cc)

pub cells_decide : (one other : List Cell) → Decides (same_cells one other) (one ≡ other)
cells_decide one other = pointwise_decides cell_decides one other
