-- Whether a row of cells is among others.
use Rattle.std.proofs.Common.{◌≡◌, ◌<◌, ◌+◌, ◌∙◌, ◌||◌, ℕ, List, Bool, true, false, get_or, length, take, sym, refl, subst}
use Rattle.std.specs.Prelude.{◌↔◌, IsTrue}
use Rattle.std.specs.List.{Contains}
use Rattle.std.proofs.lemmas.List.Elements.{Contains-get_or}
use Rattle.std.proofs.lemmas.List.Folds.{list_any_more}
use Rattle.std.proofs.lemmas.Map.Made.{is_member-Decides}
use Rattle.stream_heads.specs.declared.cells.Cell.{Cell}
use Rattle.stream_heads.specs.Equality.{cells_decide, same_cells}
use Rattle.stream_heads.specs.Exact.{is_among}

-- a row that is there is among them
pub among_there : (rows : List (List Cell)) (row : List Cell) → Contains rows row → is_among rows row ≡ true
among_there rows row there = (is_member-Decides cells_decide rows row).1 there

pub there_among : (rows : List (List Cell)) (row : List Cell) → is_among rows row ≡ true → Contains rows row
there_among rows row is = (is_member-Decides cells_decide rows row).0 is

-- a row that is one of them
pub among_here : (rows : List (List Cell)) (i : ℕ) (x row : List Cell) → i < length rows → x ≡ get_or rows i x → row ≡ x → is_among rows row ≡ true
among_here rows i x row within is same =
    among_there rows row (subst (λ (y : List Cell). Contains rows y) (sym (same ∙ is)) (Contains-get_or rows i x within))

neither : (a b : Bool) → a ≡ false → b ≡ false → (a || b) ≡ false
neither a b e f = rw (e, f) refl

-- and one row more that is not it
pub not_among_more : (rows : List (List Cell)) (i : ℕ) (x row : List Cell) → i < length rows → x ≡ get_or rows i x → (row ≡ x → ⊥) → is_among (take i rows) row ≡ false → is_among (take (i + 1) rows) row ≡ false
not_among_more rows i x row within is other none =
    let apart : same_cells row (get_or rows i x) ≡ false = elim (same_cells row (get_or rows i x)) as (λ b. same_cells row (get_or rows i x) ≡ b → b ≡ false) [
      | true ↦ λ same. absurd (other ((cells_decide row (get_or rows i x)).0 same ∙ sym is))
      | false ↦ λ same. refl
    ] refl in
    list_any_more (same_cells row) rows i x within ∙ neither _ _ none apart

-- a test that tells whether a row is there
pub tells_among : (rows : List (List Cell)) (row : List Cell) (b : Bool) → (IsTrue b ↔ Contains rows row) → b ≡ is_among rows row
tells_among rows row true tells = sym (among_there rows row (tells.0 refl))
tells_among rows row false tells = elim (is_among rows row) as (λ a. is_among rows row ≡ a → false ≡ a) [
  | true ↦ λ is. tells.1 (there_among rows row is)
  | false ↦ λ is. refl
] refl
