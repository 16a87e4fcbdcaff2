-- The rows of groups that go and come lead from the old rows of groups to the new ones.
use Rattle.std.proofs.Common.{◌≡◌, ◌<◌, ◌≤◌, ◌+◌, ◌∙◌, ℕ, ℤ, pos, Bool, true, false, cond, List, [], ◌∷◌, ◌++◌, Option, Some, None, refl, ap, sym, arith}
use Rattle.std.specs.Prelude.{count_by, nat_lt}
use Rattle.std.specs.Option.{option_eq}
use Rattle.std.specs.Ordering.{int_eq}
use Rattle.std.specs.Cmp.{signed_Decides}
use Rattle.std.proofs.lemmas.List.Sums.{sum_by-append}
use Rattle.plan_rules.proofs.Sums.{list_any-counted}
use Rattle.stream_heads.specs.declared.cells.Cell.{Cell}
use Rattle.stream_heads.specs.declared.cells.Cell.TheVariants as cell
use Rattle.stream_heads.specs.Equality.{cells_decide, same_cells}
use Rattle.stream_heads.specs.Exact.{IsExact, is_among}
use Rattle.stream_group.specs.Turns.{group_cells, rows_of_key, unless_same}
use Rattle.stream_group.proofs.Counts.{none_passes, part_from_counts, same_from_counts}

abbrev number : Cell → ℤ
number (cell.Place n) = pos 0
number (cell.Num n) = n

-- the numbers of all cells but the last, and that of the last
abbrev pub key_in : List Cell → List ℤ
key_in [] = []
key_in (c ∷ []) = []
key_in (c ∷ d ∷ rest) = number c ∷ key_in (d ∷ rest)

abbrev last_in : List Cell → ℤ
last_in [] = pos 0
last_in (c ∷ []) = number c
last_in (c ∷ d ∷ rest) = last_in (d ∷ rest)

pub key-group_cells : (key : List ℤ) (n : ℤ) → key_in (group_cells key n) ≡ key
key-group_cells [] n = refl
key-group_cells (a ∷ []) n = refl
key-group_cells (a ∷ b ∷ rest) n = ap (λ (ks : List ℤ). a ∷ ks) (key-group_cells (b ∷ rest) n)

last-group_cells : (key : List ℤ) (n : ℤ) → last_in (group_cells key n) ≡ n
last-group_cells [] n = refl
last-group_cells (a ∷ []) n = refl
last-group_cells (a ∷ b ∷ rest) n = last-group_cells (b ∷ rest) n

abbrev pub count_of : List Cell → List (List Cell) → ℕ
count_of row rows = count_by (same_cells row) rows

weight_false : (b : Bool) → (b ≡ true → ⊥) → ◌≡◌ {A = ℕ} (cond b 1 0) 0
weight_false true not = absurd (not refl)
weight_false false not = refl

-- the rows of a key have no row of another one
pub only_its_key : (row : List Cell) (key : List ℤ) (made : Option ℤ) → (key_in row ≡ key → ⊥) → count_of row (rows_of_key key made) ≡ 0
only_its_key row key None other = refl
only_its_key row key (Some n) other =
    ap (λ (k : ℕ). 0 + k) (weight_false (same_cells row (group_cells key n)) (λ is. other (ap key_in ((cells_decide row (group_cells key n)).0 is) ∙ key-group_cells key n)))

none_in_unless : (row : List Cell) (b : Bool) (rows : List (List Cell)) → count_of row rows ≡ 0 → count_of row (cond b [] rows) ≡ 0
none_in_unless row true rows none = refl
none_in_unless row false rows none = none

pub only_its_turn : (row : List Cell) (key : List ℤ) (before after made : Option ℤ) → (key_in row ≡ key → ⊥) → count_of row (unless_same before after (rows_of_key key made)) ≡ 0
only_its_turn row key before after made other = none_in_unless row (option_eq int_eq before after) (rows_of_key key made) (only_its_key row key made other)

-- made of the same number
made_same : (before after : Option ℤ) → option_eq int_eq before after ≡ true → before ≡ after
made_same None None is = refl
made_same None (Some n) is = absurd (let no : false ≡ true = is in cc)
made_same (Some n) None is = absurd (let no : false ≡ true = is in cc)
made_same (Some n) (Some k) is = ap Some ((signed_Decides n k).0 is)

-- what is no turn
pub same_made : (made : Option ℤ) → option_eq int_eq made made ≡ true
same_made None = refl
same_made (Some n) = (signed_Decides n n).1 refl

-- old rows and those that come are as many as new rows and those that go
turn_leads : (row : List Cell) (key : List ℤ) (before after : Option ℤ) → count_of row (rows_of_key key before) + count_of row (unless_same before after (rows_of_key key after)) ≡ count_of row (rows_of_key key after) + count_of row (unless_same before after (rows_of_key key before))
turn_leads row key before after =
    elim (option_eq int_eq before after) as (λ b. option_eq int_eq before after ≡ b → count_of row (rows_of_key key before) + count_of row (cond b [] (rows_of_key key after)) ≡ count_of row (rows_of_key key after) + count_of row (cond b [] (rows_of_key key before))) [
      | true ↦ λ is. ap (λ (made : Option ℤ). count_of row (rows_of_key key made) + 0) (made_same before after is)
      | false ↦ λ is. omega arith
    ] refl

fewer : (row : List Cell) (b : Bool) (rows : List (List Cell)) → count_of row (cond b [] rows) ≤ count_of row rows
fewer row true rows = omega arith
fewer row false rows = omega arith

-- another number makes another row
other_row : (row : List Cell) (key : List ℤ) (n k : ℤ) → int_eq n k ≡ false → 0 < count_of row (group_cells key k ∷ []) → count_of row (group_cells key n ∷ []) ≡ 0
other_row row key n k other some = ap (λ (k : ℕ). 0 + k) (weight_false (same_cells row (group_cells key n)) (λ is.
    let one : row ≡ group_cells key n = (cells_decide row (group_cells key n)).0 is in
    elim (same_cells row (group_cells key k)) as (λ b. same_cells row (group_cells key k) ≡ b → 0 < 0 + cond b 1 0 → ⊥) [
      | true ↦ λ same _.
          let two : row ≡ group_cells key k = (cells_decide row (group_cells key k)).0 same in
          let numbers : n ≡ k = sym (last-group_cells key n) ∙ ap last_in (sym one ∙ two) ∙ last-group_cells key k in
          let yes : int_eq n k ≡ true = (signed_Decides n k).1 numbers in cc
      | false ↦ λ same no. omega (arith, no)
    ] refl some))

-- a row that comes was none of the old ones
turn_fresh : (row : List Cell) (key : List ℤ) (before after : Option ℤ) → 0 < count_of row (unless_same before after (rows_of_key key after)) → count_of row (rows_of_key key before) ≡ 0
turn_fresh row key None after some = refl
turn_fresh row key (Some n) None some = absurd (omega (arith, some))
turn_fresh row key (Some n) (Some k) some =
    elim (int_eq n k) as (λ b. int_eq n k ≡ b → 0 < count_of row (cond b [] (group_cells key k ∷ [])) → count_of row (group_cells key n ∷ []) ≡ 0) [
      | true ↦ λ is no. absurd (omega (arith, no))
      | false ↦ λ is. other_row row key n k is
    ] refl some

-- where each row counts as among those of its key, what goes and what comes of the keys leads on
pub groups_exact : (old gone come new : List (List Cell)) (before after : List ℤ → Option ℤ)
    → ((row : List Cell) → count_of row old ≡ count_of row (rows_of_key (key_in row) (before (key_in row))))
    → ((row : List Cell) → count_of row new ≡ count_of row (rows_of_key (key_in row) (after (key_in row))))
    → ((row : List Cell) → count_of row gone ≡ count_of row (unless_same (before (key_in row)) (after (key_in row)) (rows_of_key (key_in row) (before (key_in row)))))
    → ((row : List Cell) → count_of row come ≡ count_of row (unless_same (before (key_in row)) (after (key_in row)) (rows_of_key (key_in row) (after (key_in row)))))
    → IsExact old gone come new
groups_exact old gone come new before after olds news gones comes = record {
  leads = same_from_counts same_cells cells_decide (old ++ come) (new ++ gone) (λ row.
      let w : List Cell → ℕ = λ x. cond (same_cells row x) 1 0 in
      omega (arith, olds row, news row, gones row, comes row, sum_by-append w old come, sum_by-append w new gone, turn_leads row (key_in row) (before (key_in row)) (after (key_in row))));
  there = part_from_counts same_cells cells_decide gone old (λ row.
      let few = fewer row (option_eq int_eq (before (key_in row)) (after (key_in row))) (rows_of_key (key_in row) (before (key_in row))) in
      omega (arith, olds row, gones row, few));
  fresh = none_passes same_cells cells_decide (is_among old) come (λ row some.
      let come_some : 0 < count_of row (unless_same (before (key_in row)) (after (key_in row)) (rows_of_key (key_in row) (after (key_in row)))) = omega (arith, some, comes row) in
      let none : count_of row old ≡ 0 = olds row ∙ turn_fresh row (key_in row) (before (key_in row)) (after (key_in row)) come_some in
      list_any-counted (same_cells row) old ∙ ap (nat_lt 0) none);
}
