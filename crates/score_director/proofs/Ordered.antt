-- The numbers of rows, and the order of rows by them.
use Rattle.std.proofs.Common.{◌≡◌, ◌∙◌, ◌≤◌, ℕ, zero, suc, ℤ, pos, Some, None, List, [], ◌∷◌, ◌++◌, take, get_or, length, slice_get, refl, sym, ap, subst, arith}
use Rattle.std.specs.Prelude.{IsPermutation, IsSorted, slice_index_or}
use Rattle.std.proofs.lemmas.List.{append-nil, drop_all, length-map, take_all}
use Rattle.std.proofs.lemmas.List.Sorted.{length_permutation}
use Rattle.plan_facts.specs.Lent.{written_back}
use Rattle.plan_rules.specs.declared.row.Part.{Part}
use Rattle.plan_rules.specs.Order.{part_number, row_cmp, row_numbers}
use Rattle.plan_rules.proofs.Rearranged.{same_from_permutation}
use Rattle.plan_rules.proofs.Restored.{sorting_restores_rows}
use Rattle.plan_rules.proofs.Sums.{same-sym, same-trans}
use Rattle.plan_rules.specs.Rows.{rule_rows}
use Rattle.score_director.specs.Ordered.{BecomeRuleRows}

-- the number of a part that is there
pub number_there : (row : List Part) (place : ℕ) (part : Part) → Some part ≡ slice_get row place → part_number part ≡ slice_index_or (row_numbers row) place (pos 0)
number_there [] place part is = cc
number_there (first ∷ rest) zero part is = ap part_number (same is)
  where
    same : Some part ≡ Some first → part ≡ first
    same e = cc
number_there (first ∷ rest) (suc place) part is = number_there rest place part is

-- and 0 where there is none
pub number_past : (row : List Part) (place : ℕ) → None ≡ slice_get row place → pos 0 ≡ slice_index_or (row_numbers row) place (pos 0)
number_past [] place is = refl
number_past (first ∷ rest) zero is = cc
number_past (first ∷ rest) (suc place) is = number_past rest place is

-- the first numbers of four are all, where there are as many and zeros behind them
pub first_of_four : (ns : List ℤ) → length ns ≤ 4
    → take (length ns) (get_or ns 0 (pos 0) ∷ get_or ns 1 (pos 0) ∷ get_or ns 2 (pos 0) ∷ get_or ns 3 (pos 0) ∷ []) ≡ ns
first_of_four [] few = refl
first_of_four (a ∷ []) few = refl
first_of_four (a ∷ b ∷ []) few = refl
first_of_four (a ∷ b ∷ c ∷ []) few = refl
first_of_four (a ∷ b ∷ c ∷ d ∷ []) few = refl
first_of_four (a ∷ b ∷ c ∷ d ∷ e ∷ ns) few = absurd (omega arith)

-- the same of a row
pub numbers_of_row : (row : List Part) → length row ≤ 4
    → take (length row) (get_or (row_numbers row) 0 (pos 0) ∷ get_or (row_numbers row) 1 (pos 0) ∷ get_or (row_numbers row) 2 (pos 0) ∷ get_or (row_numbers row) 3 (pos 0) ∷ []) ≡ row_numbers row
numbers_of_row row few =
    let ns = row_numbers row in
    let count : length ns ≡ length row = length-map row part_number in
    ap (λ (n : ℕ). take n (get_or ns 0 (pos 0) ∷ get_or ns 1 (pos 0) ∷ get_or ns 2 (pos 0) ∷ get_or ns 3 (pos 0) ∷ [])) (sym count)
    ∙ first_of_four ns (omega (arith, count))

-- sorted rows are a rule's where they were before but for their order
pub sorted_become : (before after : List (List Part)) → IsPermutation before after → IsSorted row_cmp after → BecomeRuleRows before after
sorted_become before after moved sorted m facts rule by_id same =
    sorting_restores_rows m facts rule after by_id
    (same-trans after before (rule_rows m facts rule) (same-sym before after (same_from_permutation before after moved)) same) sorted

-- what was written over a whole list is what it holds
written_over : {X : Type 0} (was written : List X) → length written ≡ length was → written_back was written ≡ written
written_over was written long =
    ap (λ (rest : List _). take (length was) (written ++ rest)) (drop_all (length written) was (omega (arith, long)))
    ∙ ap (take (length was)) (append-nil written)
    ∙ take_all (length was) written (omega (arith, long))

-- the same where sorted rows were written over those before
pub written_become : (before after : List (List Part)) → IsPermutation before after → IsSorted row_cmp after → BecomeRuleRows before (written_back before after)
written_become before after moved sorted =
    subst (BecomeRuleRows before) (sym (written_over before after (length_permutation before after moved))) (sorted_become before after moved sorted)
