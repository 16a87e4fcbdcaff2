-- Rows with their numbers can be told apart.
use Rattle.std.specs.Prelude.{◌≡◌, ◌&&◌, Bool, true, false, List, ℤ, refl}
use Rattle.std.proofs.Common.{sym, ◌∙◌}
use Rattle.std.specs.Bool.{Decides}
use Rattle.std.specs.Ordering.{int_eq}
use Rattle.std.specs.Cmp.{signed_Decides}
use Rattle.std.specs.Cmp.Lexicographic.{pointwise, pointwise_decides}
use Rattle.stream_heads.specs.declared.cells.Cell.{Cell}
use Rattle.stream_heads.specs.declared.member.Member.{Member}
use Rattle.stream_heads.specs.Equality.{cells_decide, same_cells}

-- the same cells, with the same numbers
abbrev pub same_member : Member → Member → Bool
same_member one other = same_cells one.cells other.cells && pointwise int_eq one.numbers other.numbers

both : {P Q R : Type 0} (p q : Bool) → Decides p P → Decides q Q → (P → Q → R) → (R → P) → (R → Q) → Decides (p && q) R
both true true one other to first second = (λ is. to (one.0 refl) (other.0 refl), λ r. refl)
both true false one other to first second = (λ is. cc, λ r. other.1 (second r))
both false q one other to first second = (λ is. cc, λ r. one.1 (first r))

built : {a b : List Cell} {m n : List ℤ} → a ≡ b → m ≡ n
    → ◌≡◌ {A = Member} (record { cells = a; numbers = m }) (record { cells = b; numbers = n })
built e f = λ i. record { cells = e i; numbers = f i }

pub member_decides : (one other : Member) → Decides (same_member one other) (one ≡ other)
member_decides one other =
    both (same_cells one.cells other.cells) (pointwise int_eq one.numbers other.numbers)
    (cells_decide one.cells other.cells) (pointwise_decides signed_Decides one.numbers other.numbers)
    built (λ e i. (e i).cells) (λ e i. (e i).numbers)

-- where the cells are the same, the numbers decide
pub numbers_decide : (one other : Member) (b : Bool) → one.cells ≡ other.cells
    → b ≡ pointwise int_eq one.numbers other.numbers → Decides b (one ≡ other)
numbers_decide one other b cells is =
    let decides = pointwise_decides signed_Decides one.numbers other.numbers in
    (λ t. built cells (decides.0 (sym is ∙ t)), λ e. is ∙ decides.1 (λ i. (e i).numbers))
