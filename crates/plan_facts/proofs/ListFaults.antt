-- How a loop over the classes finds the first fault of their lists.
use Rattle.std.proofs.Common.{◌≡◌, ◌<◌, ◌≤◌, ◌+◌, ◌∙◌, ℕ, Bool, Option, Some, None, List, [], ◌∷◌, ◌++◌, length, take, drop, zip, get_or, slice_get, sym, ap, subst, arith, inl, inr}
use Rattle.std.specs.Option.{option_or}
use Rattle.std.proofs.lemmas.List.{length-take-le, take_more}
use Rattle.std.proofs.lemmas.Option.{get_or_from_slice_get}
use Rattle.std.proofs.lemmas.Slice.Zip.{length-zip, get_or-zip, all_zipped_more}
use Rattle.plan_facts.specs.First.{first_fault}
use Rattle.plan_facts.specs.declared.record.Raw.{Raw}
use Rattle.plan_facts.specs.declared.record.ClassDef.{ClassDef}
use Rattle.plan_facts.specs.declared.fault.PlanFault.{PlanFault}
use Rattle.plan_facts.specs.declared.fault.PlanFault.TheVariants.{Memory}
use Rattle.plan_facts.specs.PlanFaults.{record_fault, class_fault, ranges_of, record_values_fault, class_values_fault}
use Rattle.plan_facts.specs.Refusal.{IsRefusal}
use Rattle.plan_facts.specs.Listed.{Ids, HasIds, HaveIds}
use Rattle.plan_facts.proofs.FirstLaws.{first_fault-from, first_fault-end}

-- a pair of two lists by its place
pub pair_at : {A B : Type 0} (xs : List A) (ys : List B) (k : ℕ) (x : A) (y : B) → k < length xs → length ys ≡ length xs → slice_get xs k ≡ Some x → y ≡ get_or ys k y → get_or (zip xs ys) k (x, y) ≡ (x, y)
pair_at xs ys k x y within same at_x at_y =
    let there : k < length ys = omega arith in
    let first : get_or xs k x ≡ x = get_or_from_slice_get xs k x x at_x in
    get_or-zip xs ys k (x, y) within there ∙ (λ i. (first i, sym at_y i))

-- what stands from a pair on is judged by that pair first
zip_at : {A B F : Type 0} (fault_of : List (A × B) → A × B → Option F) (xs : List A) (ys : List B) (k : ℕ) (x : A) (y : B) → k < length xs → length ys ≡ length xs → slice_get xs k ≡ Some x → y ≡ get_or ys k y →
    first_fault fault_of (take k (zip xs ys)) (drop k (zip xs ys)) ≡ option_or (fault_of (take k (zip xs ys)) (x, y)) (first_fault fault_of (take (k + 1) (zip xs ys)) (drop (k + 1) (zip xs ys)))
zip_at fault_of xs ys k x y within same at_x at_y =
    let long = length-zip xs ys in
    let in_pairs : k < length (zip xs ys) = omega arith in
    first_fault-from fault_of (zip xs ys) k (x, y) in_pairs (sym (pair_at xs ys k x y within same at_x at_y))

pub before : {A B : Type 0} (xs : List A) (ys : List B) (k : ℕ) → k < length xs → length ys ≡ length xs → length (take k (zip xs ys)) ≡ k
before xs ys k within same = let long = length-zip xs ys in length-take-le k (zip xs ys) (let h : k ≤ length (zip xs ys) = omega arith in h)

-- past the last pair there is no fault
pub zip_end : {A B F : Type 0} (fault_of : List (A × B) → A × B → Option F) (xs : List A) (ys : List B) (k : ℕ) → length xs ≤ k → first_fault fault_of (take k (zip xs ys)) (drop k (zip xs ys)) ≡ None
zip_end fault_of xs ys k past = let long = length-zip xs ys in first_fault-end fault_of (zip xs ys) k (omega arith)

-- what stands from a class on is judged by the ids and fields of that class first
pub class_at : (classes : List ClassDef) (lists : List (List Raw)) (class : ℕ) (def : ClassDef) (raws : List Raw) → class < length classes → length lists ≡ length classes → slice_get classes class ≡ Some def → raws ≡ get_or lists class raws →
    first_fault class_fault (take class (zip classes lists)) (drop class (zip classes lists)) ≡ option_or (first_fault (record_fault class (length def.fields)) [] raws) (first_fault class_fault (take (class + 1) (zip classes lists)) (drop (class + 1) (zip classes lists)))
class_at classes lists class def raws within same at_def at_raws =
    zip_at class_fault classes lists class def raws within same at_def at_raws
    ∙ ap (λ (n : ℕ). option_or (first_fault (record_fault n (length def.fields)) [] raws) (first_fault class_fault (take (class + 1) (zip classes lists)) (drop (class + 1) (zip classes lists)))) (before classes lists class within same)

-- what stands from a class on is judged by the values of that class first
pub class_values_at : (live : ℕ → ℕ → Bool) (classes : List ClassDef) (lists : List (List Raw)) (class : ℕ) (def : ClassDef) (raws : List Raw) → class < length classes → length lists ≡ length classes → slice_get classes class ≡ Some def → raws ≡ get_or lists class raws →
    first_fault (class_values_fault live) (take class (zip classes lists)) (drop class (zip classes lists)) ≡ option_or (first_fault (record_values_fault live class (ranges_of def)) [] raws) (first_fault (class_values_fault live) (take (class + 1) (zip classes lists)) (drop (class + 1) (zip classes lists)))
class_values_at live classes lists class def raws within same at_def at_raws =
    zip_at (class_values_fault live) classes lists class def raws within same at_def at_raws
    ∙ ap (λ (n : ℕ). option_or (first_fault (record_values_fault live n (ranges_of def)) [] raws) (first_fault (class_values_fault live) (take (class + 1) (zip classes lists)) (drop (class + 1) (zip classes lists)))) (before classes lists class within same)

-- a refusal for the first of two faults is one for both
pub refused_first : (whole first rest : Option PlanFault) (fault : PlanFault) → whole ≡ option_or first rest → IsRefusal Memory first fault → IsRefusal Memory whole fault
refused_first whole first rest fault is (inl memory) = inl memory
refused_first whole first rest fault is (inr found) = inr (is ∙ ap (λ (o : Option PlanFault). option_or o rest) found)

-- a fault that stands is a refusal
pub refused_by : (whole : Option PlanFault) (fault : PlanFault) → whole ≡ Some fault → IsRefusal Memory whole fault
refused_by whole fault is = inr is

-- where the first of two faults isn't there, the other one counts
pub passed_first : (whole first rest : Option PlanFault) → whole ≡ option_or first rest → first ≡ None → whole ≡ rest
passed_first whole first rest is none = is ∙ ap (λ (o : Option PlanFault). option_or o rest) none

-- one more set of ids
pub have_more : (lists : List (List Raw)) (sets : List Ids) (class : ℕ) (raws : List Raw) (ids : Ids) → class < length lists → raws ≡ get_or lists class raws → HaveIds (take class lists) sets → HasIds raws ids → HaveIds (take (class + 1) lists) (sets ++ ids ∷ [])
have_more lists sets class raws ids within at_raws so_far here =
    subst (λ (front : List (List Raw)). HaveIds front (sets ++ ids ∷ [])) (ap (λ (r : List Raw). take class lists ++ r ∷ []) at_raws ∙ sym (take_more lists class raws within)) (all_zipped_more HasIds (take class lists) sets raws ids so_far here)
