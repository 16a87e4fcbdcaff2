-- The order of rows is found again by sorting.
use Rattle.std.proofs.Common.{◌≡◌, List, [], ◌∷◌, ◌++◌, true, false, refl, sym, ◌∙◌, ap, subst, arith}
use Rattle.std.specs.Prelude.{All, IsSorted}
use Rattle.std.specs.Ordering.{is_lt}
use Rattle.std.specs.Cmp.{int_cmp_total}
use Rattle.std.specs.Cmp.Lexicographic.{lists_total}
use Rattle.std.proofs.lemmas.List.Elements.{All-head, All-tail}
use Rattle.std.proofs.lemmas.List.MinMax.{ranks_by}
use Rattle.std.proofs.lemmas.List.Sorted.{sorted_far}
use Rattle.std.proofs.lemmas.List.Sums.{sum_by-cons}
use Rattle.plan_rules.specs.declared.row.Part.{Part}
use Rattle.plan_rules.specs.Rows.{rule_rows}
use Rattle.plan_rules.specs.Bags.{AreSame}
use Rattle.plan_rules.specs.Laws.{SortingRestoresRows}
use Rattle.plan_rules.specs.Order.{row_cmp, row_numbers}
use Rattle.plan_rules.proofs.Rearranged.{Parted, found_first, same_without}
use Rattle.plan_rules.proofs.Rising.{Rising, rising_from_pairs}
use Rattle.plan_rules.proofs.RowEquality.{row_decides, same_row}
use Rattle.plan_rules.proofs.RowOrder.{Before, rule-order}

-- a row doesn't come after another
abbrev NotAfter : List Part → List Part → Type 0
NotAfter one other = is_lt (row_cmp other one) ≡ false

-- in a sorted list no row comes after a later one
sorted_rising : (rows : List (List Part)) → IsSorted row_cmp rows → Rising NotAfter rows
sorted_rising rows sorted =
    rising_from_pairs NotAfter rows
    (λ i j d below within. sorted_far (λ one other. is_lt (row_cmp one other)) (ranks_by (lists_total int_cmp_total) row_numbers) rows sorted i j d (omega arith) within)

-- what holds of all members holds of one in the middle
at_middle : {X : Type 0} (P : X → Type 0) (front : List X) (x : X) (back : List X) → All P (front ++ x ∷ back) → P x
at_middle P [] x back all = All-head P x back all
at_middle P (y ∷ front) x back all = at_middle P front x back (All-tail P y (front ++ x ∷ back) all)

-- a row that isn't the first of a list and stands in it stands behind the first
behind_first : (R : List Part → List Part → Type 0) (x y : List Part) (ys : List (List Part)) → All (R y) ys → (x ≡ y → ⊥) → Parted x (y ∷ ys) → R y x
behind_first R x y ys all other parted =
    elim parted.front as (λ front. y ∷ ys ≡ front ++ x ∷ parted.back → R y x) [
      | [] ↦ λ is. absurd (other (sym (list_first y x ys parted.back is)))
      | z ∷ front ↦ λ is. at_middle (R y) front x parted.back (subst (λ (rows : List (List Part)). All (R y) rows) (list_rest y z ys (front ++ x ∷ parted.back) is) all)
    ] parted.is
  where
    list_first : (a b : List Part) (more others : List (List Part)) → a ∷ more ≡ b ∷ others → a ≡ b
    list_first a b more others is = cc

    list_rest : (a b : List Part) (more others : List (List Part)) → a ∷ more ≡ b ∷ others → more ≡ others
    list_rest a b more others is = cc

-- two different first rows can't both stand behind the other
no_two_firsts : (x y : List Part) (xs ys : List (List Part)) → All (NotAfter x) xs → All (Before y) ys → AreSame (x ∷ xs) (y ∷ ys) → (x ≡ y → ⊥) → ⊥
no_two_firsts x y xs ys not_after before same other =
    let back : AreSame (y ∷ ys) (x ∷ xs) = record { sums = λ f. sym (same.sums f) } in
    let y_first : Before y x = behind_first Before x y ys before other (found_first same_row row_decides x xs (y ∷ ys) same) in
    let x_first : NotAfter x y = behind_first NotAfter y x xs not_after (λ is. other (sym is)) (found_first same_row row_decides y ys (x ∷ xs) back) in
    true_isn't_false (sym (ap is_lt y_first) ∙ x_first)
  where
    true_isn't_false : true ≡ false → ⊥
    true_isn't_false is = cc

-- a sorted list is the one in order with the same rows
restored : (rows ordered : List (List Part)) → Rising NotAfter rows → Rising Before ordered → AreSame rows ordered → rows ≡ ordered
restored [] [] up order same = refl
restored [] (y ∷ ys) up order same = absurd (let is = same.sums (λ row. 1) in omega (arith, sum_by-cons (λ (row : List Part). 1) y ys))
restored (x ∷ xs) [] up order same = absurd (let is = same.sums (λ row. 1) in omega (arith, sum_by-cons (λ (row : List Part). 1) x xs))
restored (x ∷ xs) (y ∷ ys) up order same =
    elim (same_row x y) as (λ b. same_row x y ≡ b → x ∷ xs ≡ y ∷ ys) [
      | true ↦ λ is.
          let first : x ≡ y = (row_decides x y).0 is in
          let rest = restored xs ys (up.1) (order.1) (same_without same_row row_decides x xs [] ys (subst (λ (row : List Part). AreSame (x ∷ xs) (row ∷ ys)) (sym first) same)) in
          λ i. first i ∷ rest i
      | false ↦ λ is. absurd (no_two_firsts x y xs ys (up.0) (order.0) same (λ e. let so = (row_decides x y).1 e in cc))
    ] refl

pub sorting_restores_rows : SortingRestoresRows
sorting_restores_rows m facts rule rows by_id same sorted = restored rows (rule_rows m facts rule) (sorted_rising rows sorted) (rule-order m facts rule by_id) same
