-- The tables of some lists, one class at a time.
use Rattle.std.proofs.Common.{◌≡◌, ◌<◌, ◌≤◌, ◌+◌, ◌∙◌, ℕ, Some, List, [], ◌∷◌, ◌++◌, length, take, drop, zip, map, set, get_or, slice_get, sym, ap, arith}
use Rattle.std.proofs.lemmas.List.{map_more, take_all, get_or-drop, drop-drop, drop-set-lt}
use Rattle.std.proofs.lemmas.Slice.Zip.{length-zip}
use Rattle.plan_facts.specs.declared.record.Raw.{Raw}
use Rattle.plan_facts.specs.declared.record.ClassDef.{ClassDef}
use Rattle.plan_facts.specs.Plan.{ClassView}
use Rattle.plan_facts.specs.PlanFaults.{class_with}
use Rattle.plan_facts.proofs.ListFaults.{pair_at}

-- what is read of the lists that are left is what the lists had
pub read_left : {X : Type 0} (left all : List X) (k : ℕ) (x : X) → drop k left ≡ drop k all → x ≡ get_or left k x → x ≡ get_or all k x
read_left {X} left all k x same read =
    let now : get_or (drop k left) 0 x ≡ get_or left k x = get_or-drop k left 0 x ∙ ap (λ (n : ℕ). get_or left n x) (omega arith) in
    let then : get_or (drop k all) 0 x ≡ get_or all k x = get_or-drop k all 0 x ∙ ap (λ (n : ℕ). get_or all n x) (omega arith) in
    read ∙ sym now ∙ ap (λ (xs : List X). get_or xs 0 x) same ∙ then

-- what is left past a place that was taken
pub left_more : {X : Type 0} (left all : List X) (k : ℕ) (y : X) → drop k left ≡ drop k all → drop (k + 1) (set left k y) ≡ drop (k + 1) all
left_more {X} left all k y same = drop-set-lt (k + 1) left k y (omega arith) ∙ sym (drop-drop 1 k left) ∙ ap (drop 1) same ∙ drop-drop 1 k all

-- one more table
pub tables_more : (classes : List ClassDef) (lists : List (List Raw)) (class : ℕ) (def : ClassDef) (raws : List Raw) (tables : List ClassView) (table : ClassView) → class < length classes → length lists ≡ length classes → slice_get classes class ≡ Some def → raws ≡ get_or lists class raws → tables ≡ map (λ pair. class_with pair.0 pair.1) (take class (zip classes lists)) → table ≡ class_with def raws →
    tables ++ table ∷ [] ≡ map (λ pair. class_with pair.0 pair.1) (take (class + 1) (zip classes lists))
tables_more classes lists class def raws tables table within same at_def at_raws so_far is =
    let view = λ (pair : ClassDef × List Raw). class_with pair.0 pair.1 in
    let long = length-zip classes lists in
    let in_pairs : class < length (zip classes lists) = omega arith in
    let pair = pair_at classes lists class def raws within same at_def at_raws in
    (λ i. so_far i ++ (is ∙ sym (ap view pair)) i ∷ []) ∙ sym (map_more view (zip classes lists) class (def, raws) in_pairs)

-- all tables
pub tables_all : (classes : List ClassDef) (lists : List (List Raw)) (class : ℕ) (tables : List ClassView) → length classes ≤ class → tables ≡ map (λ pair. class_with pair.0 pair.1) (take class (zip classes lists)) → tables ≡ map (λ pair. class_with pair.0 pair.1) (zip classes lists)
tables_all classes lists class tables past so_far =
    let long = length-zip classes lists in
    so_far ∙ ap (map (λ (pair : ClassDef × List Raw). class_with pair.0 pair.1)) (take_all class (zip classes lists) (omega arith))
