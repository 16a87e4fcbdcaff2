-- The classes of the plan of some lists, and that it is sound where the lists have no fault.
use Rattle.plan_facts.specs.Limits.{fact_limit, field_limit}
use Rattle.std.proofs.Common.{◌≡◌, ◌==◌, ◌<◌, ◌≤◌, ◌∙◌, ℕ, true, false, cond, nat_lt, Option, Some, None, is_some, IsTrue, inl, inr, List, [], ◌∷◌, length, take, zip, map, get_or, refl, sym, ap, subst, arith, All, sum_by}
use Rattle.std.specs.Option.{option_map_or}
use Rattle.std.proofs.lemmas.Bool.{cases_lt, false≢true}
use Rattle.std.proofs.lemmas.Bool.Decides.{nat_tests}
use Rattle.std.proofs.lemmas.List.{get_or-map, length-map, nil_from_length}
use Rattle.std.proofs.lemmas.List.Elements.{All-from_get_or, All-map, All-weaker}
use Rattle.std.proofs.lemmas.List.Sorted.{IsPermutation-map, All-permutation, length_permutation, list_any-IsPermutation}
use Rattle.std.proofs.lemmas.List.Sums.{sum_by-cons}
use Rattle.std.proofs.lemmas.Option.{slice_get-get_or, slice_get_past}
use Rattle.std.proofs.lemmas.Slice.Zip.{length-zip, get_or-zip}
use Rattle.plan_facts.specs.First.{first_fault}
use Rattle.plan_facts.specs.Schema.{schema_fault, HasFewMembers, HasRanges, may_be_range}
use Rattle.plan_facts.specs.declared.record.Raw.{Raw}
use Rattle.plan_facts.specs.declared.record.ClassDef.{ClassDef}
use Rattle.plan_facts.specs.declared.record.VarDef.{VarDef}
use Rattle.plan_facts.specs.declared.fault.PlanFault.TheVariants.{ClassCount, TooManyFacts}
use Rattle.plan_facts.specs.Plan.{ClassView, no_class, class_of, ids_in, record_with_id, is_live, IsPlan, IsClassOf, IsValueClass, IsRecordOf}
use Rattle.plan_facts.specs.PlanFaults.{by_id, ranges_of, class_with, plan_of, plan_fault, record_fault, class_fault, record_values_fault, class_values_fault}
use Rattle.plan_facts.proofs.FirstLaws.{first_fault-none, option_or-none}
use Rattle.plan_facts.proofs.SchemaLaws.{few_members_of, each_range_of}
use Rattle.plan_facts.proofs.Sound.{live_by_ids}
use Rattle.plan_facts.proofs.ById.{by_id_permutation, by_id_increasing}
use Rattle.plan_facts.proofs.Places.{same_eqb}
use Rattle.plan_facts.proofs.ListFaults.{before}
use Rattle.plan_facts.proofs.PlanOf.{refused_none, held_none, good_at, distinct_ids, values_fit, fold_max-bounds, fold_max-le}

abbrev pub no_def : ClassDef
no_def = record { name = []; fields = []; vars = [] }

abbrev pub def_at : List ClassDef → ℕ → ClassDef
def_at classes n = get_or classes n no_def

abbrev pub raws_at : List (List Raw) → ℕ → List Raw
raws_at lists n = get_or lists n []

pub count_of-plan_of : (classes : List ClassDef) (lists : List (List Raw)) → length lists ≡ length classes → length (plan_of classes lists).classes ≡ length classes
unfolding plan_of
count_of-plan_of classes lists same =
    let long = length-zip classes lists in
    let e = length-map (zip classes lists) (λ pair. class_with pair.0 pair.1) in
    omega arith

-- a class of the plan has its list's records
pub class_of-plan_of : (classes : List ClassDef) (lists : List (List Raw)) (n : ℕ) → length lists ≡ length classes → n < length classes → class_of (plan_of classes lists) n ≡ class_with (def_at classes n) (raws_at lists n)
unfolding plan_of
class_of-plan_of classes lists n same within =
    let long = length-zip classes lists in
    get_or-map (λ pair. class_with pair.0 pair.1) (zip classes lists) n (no_def, []) no_class (omega arith)
    ∙ ap (λ (pair : ClassDef × List Raw). class_with pair.0 pair.1) (get_or-zip classes lists n (no_def, []) within (omega arith))

-- the records in order are live just where the records are
pub live-by_id : (raws : List Raw) (id : ℕ) → is_some (record_with_id id (by_id raws)) ≡ is_some (record_with_id id raws)
live-by_id raws id =
    live_by_ids (by_id raws) id ∙ sym (list_any-IsPermutation (λ other. other == id) (ids_in raws) (ids_in (by_id raws)) (IsPermutation-map (λ (r : Raw). r.id) raws (by_id raws) (by_id_permutation raws))) ∙ sym (live_by_ids raws id)

-- what lists without a fault are like
pub record Faultless (classes : List ClassDef) (lists : List (List Raw)) : Type 0 where
  pub same : length lists ≡ length classes
  pub few : sum_by length lists ≤ fact_limit
  pub records : (n : ℕ) → n < length classes → first_fault (record_fault n (length (def_at classes n).fields)) [] (raws_at lists n) ≡ None
  pub values : (n : ℕ) → n < length classes → first_fault (record_values_fault (is_live (plan_of classes lists)) n (ranges_of (def_at classes n))) [] (raws_at lists n) ≡ None

-- the pairs of two lists without a fault have none
pub zip_none : {A B F : Type 0} (fault_of : List (A × B) → A × B → Option F) (xs : List A) (ys : List B) → length ys ≡ length xs → first_fault fault_of [] (zip xs ys) ≡ None → (n : ℕ) (d : A) (e : B) → n < length xs → fault_of (take n (zip xs ys)) (get_or xs n d, get_or ys n e) ≡ None
zip_none {A} {B} {F} fault_of xs ys same none n d e within =
    let long = length-zip xs ys in
    let there : n < length ys = omega arith in
    subst (λ (pair : A × B). fault_of (take n (zip xs ys)) pair ≡ None) (get_or-zip xs ys n (d, e) within there) (first_fault-none fault_of [] (zip xs ys) none n (d, e) (omega arith))

-- lists without a fault are like that
pub faultless : (classes : List ClassDef) (lists : List (List Raw)) → plan_fault classes lists ≡ None → Faultless classes lists
unfolding plan_fault
faultless classes lists none =
    let counted = option_or-none (cond (length lists == length classes) None (Some ClassCount)) _ none in
    let same : length lists ≡ length classes = same_eqb (length lists) (length classes) (held_none _ _ counted.0) in
    let made = option_or-none (cond (nat_lt fact_limit (sum_by length lists)) (Some TooManyFacts) None) _ counted.1 in
    let few = refused_none _ _ made.0 in
    let faults = option_or-none (first_fault class_fault [] (zip classes lists)) _ made.1 in
    record {
      same = same;
      few = grind (arith, nat_tests);
      records = λ n within. subst (λ (k : ℕ). first_fault (record_fault k (length (def_at classes n).fields)) [] (raws_at lists n) ≡ None) (before classes lists n within same) (zip_none class_fault classes lists same faults.0 n no_def [] within);
      values = λ n within. subst (λ (k : ℕ). first_fault (record_values_fault (is_live (plan_of classes lists)) k (ranges_of (def_at classes n))) [] (raws_at lists n) ≡ None) (before classes lists n within same) (zip_none (class_values_fault (is_live (plan_of classes lists))) classes lists same faults.1 n no_def [] within);
    }

-- a class that may be a range has no variables
range_made : (classes : List ClassDef) (lists : List (List Raw)) (range : ℕ) → length lists ≡ length classes → may_be_range classes range ≡ true → IsValueClass (plan_of classes lists) range
range_made classes lists range same may =
    let there : range < length classes = elim (cases_lt range (length classes)) [ inl within ↦ within | inr past ↦ absurd (false≢true (sym (ap (λ (o : Option ClassDef). option_map_or (λ c. nat_lt (length c.vars) 1) o false) (slice_get_past classes range past)) ∙ may)) ] in
    let few : nat_lt (length (def_at classes range).vars) 1 ≡ true = sym (ap (λ (o : Option ClassDef). option_map_or (λ c. nat_lt (length c.vars) 1) o false) (slice_get-get_or classes range no_def there)) ∙ may in
    let empty : (def_at classes range).vars ≡ [] = nil_from_length (def_at classes range).vars (let h : length (def_at classes range).vars < 1 = grind (arith, nat_tests) in omega arith) in
    record {
      there = (let e = count_of-plan_of classes lists same in omega arith);
      plain = ap (λ (view : ClassView). view.ranges) (class_of-plan_of classes lists range same there) ∙ ap (map (λ (var : VarDef). var.values)) empty;
    }

-- each record of a class of the plan fits
records_made : (classes : List ClassDef) (lists : List (List Raw)) (n : ℕ) → Faultless classes lists → n < length classes → All (IsRecordOf (plan_of classes lists) (class_with (def_at classes n) (raws_at lists n))) (by_id (raws_at lists n))
records_made classes lists n good within =
    let plan = plan_of classes lists in
    let view = class_with (def_at classes n) (raws_at lists n) in
    All-permutation (IsRecordOf plan view) (raws_at lists n) (by_id (raws_at lists n)) (by_id_permutation (raws_at lists n)) (λ k d there.
    let record_is = good_at n (length (def_at classes n).fields) (raws_at lists n) (good.records n within) k d there in
    let values = first_fault-none (record_values_fault (is_live plan) n (ranges_of (def_at classes n))) [] (raws_at lists n) (good.values n within) k d there in
    record { fields = record_is.counted; numbers = record_is.numbers; values = values_fit (is_live plan) n (get_or (raws_at lists n) k d).id (ranges_of (def_at classes n)) (get_or (raws_at lists n) k d).values values })

-- the ids of a class of the plan are in their limits
ids_made : (classes : List ClassDef) (lists : List (List Raw)) (n : ℕ) → Faultless classes lists → n < length classes → All (λ id. (1 ≤ id) × (id ≤ field_limit)) (ids_in (by_id (raws_at lists n)))
ids_made classes lists n good within =
    All-map (λ id. (1 ≤ id) × (id ≤ field_limit)) (λ (r : Raw). r.id) (by_id (raws_at lists n)) (All-permutation (λ r. (1 ≤ r.id) × (r.id ≤ field_limit)) (raws_at lists n) (by_id (raws_at lists n)) (by_id_permutation (raws_at lists n)) (λ k d there.
    let id = (good_at n (length (def_at classes n).fields) (raws_at lists n) (good.records n within) k d there).id in
    (id.low, id.high)))

class_made : (classes : List ClassDef) (lists : List (List Raw)) (n : ℕ) → schema_fault classes ≡ None → Faultless classes lists → n < length classes → IsClassOf (plan_of classes lists) (class_with (def_at classes n) (raws_at lists n))
class_made classes lists n schema good within =
    let def = def_at classes n in
    let ids = ids_in (by_id (raws_at lists n)) in
    let limits = ids_made classes lists n good within in
    let members : HasFewMembers def = few_members_of classes schema n no_def within in
    let ranges : HasRanges classes def = each_range_of classes schema n no_def within in
    record {
      few_fields = members.fields;
      few_variables = (let e = length-map def.vars (λ (var : VarDef). var.values) in let h = members.vars in omega arith);
      ranges = All-map (IsValueClass (plan_of classes lists)) (λ (var : VarDef). var.values) def.vars (All-weaker (λ (var : VarDef). IsTrue (may_be_range classes var.values)) _ (λ var may. range_made classes lists var.values good.same may) def.vars ranges);
      nullables = length-map def.vars (λ (var : VarDef). var.nullable) ∙ sym (length-map def.vars (λ (var : VarDef). var.values));
      increasing = by_id_increasing (raws_at lists n) (distinct_ids n (length def.fields) (raws_at lists n) (good.records n within));
      ids = λ k d there. ((limits k d there).0, fold_max-bounds 0 ids k d there);
      greatest = (let h = fold_max-le 0 field_limit ids (omega arith) (λ k d there. (limits k d there).1) in omega arith);
      records = records_made classes lists n good within;
    }

live_made : (classes : List ClassDef) (lists : List (List Raw)) → length lists ≡ length classes → sum_by (λ (view : ClassView). length view.facts) (map (λ pair. class_with pair.0 pair.1) (zip classes lists)) ≡ sum_by length lists
live_made [] [] same = refl
live_made [] (raws ∷ lists) same = absurd (omega arith)
live_made (def ∷ classes) [] same = absurd (omega arith)
live_made (def ∷ classes) (raws ∷ lists) same =
    let new = sum_by-cons (λ (view : ClassView). length view.facts) (class_with def raws) (map (λ pair. class_with pair.0 pair.1) (zip classes lists)) in
    let old = sum_by-cons (λ (rs : List Raw). length rs) raws lists in
    let one = length_permutation raws (by_id raws) (by_id_permutation raws) in
    let rest = live_made classes lists (omega arith) in
    omega arith

live_of-plan_of : (classes : List ClassDef) (lists : List (List Raw)) → length lists ≡ length classes → sum_by (λ (view : ClassView). length view.facts) (plan_of classes lists).classes ≡ (plan_of classes lists).made
unfolding plan_of
live_of-plan_of classes lists same = live_made classes lists same

made_of-plan_of : (classes : List ClassDef) (lists : List (List Raw)) → (plan_of classes lists).made ≡ sum_by length lists
unfolding plan_of
made_of-plan_of classes lists = refl

-- the plan of lists without a fault is sound
pub plan_of_sound : (classes : List ClassDef) (lists : List (List Raw)) → length classes ≤ 16 → schema_fault classes ≡ None → plan_fault classes lists ≡ None → IsPlan (plan_of classes lists)
plan_of_sound classes lists few schema none =
    let good = faultless classes lists none in
    let count = count_of-plan_of classes lists good.same in
    let made = made_of-plan_of classes lists in
    let live = live_of-plan_of classes lists good.same in
    record {
      few_classes = omega arith;
      classes = All-from_get_or (IsClassOf (plan_of classes lists)) (plan_of classes lists).classes no_class (λ n there.
          let within : n < length classes = omega arith in
          subst (IsClassOf (plan_of classes lists)) (sym (class_of-plan_of classes lists n good.same within)) (class_made classes lists n schema good within));
      live = omega arith;
      made = (let h = good.few in omega arith);
    }
