-- What the checks of some lists say of their plan.
use Rattle.plan_facts.specs.Limits.{fact_limit}
use Rattle.std.proofs.Common.{◌≡◌, ◌<◌, ◌≤◌, ◌∙◌, ℕ, zero, suc, Bool, true, false, cond, nat_lt, nat_eq, Option, Some, None, is_some, List, [], ◌∷◌, length, zip, map, refl, sym, ap, subst, inl, inr, arith, All, sum_by}
use Rattle.std.specs.List.{IsDistinct}
use Rattle.std.specs.Option.{option_or, option_map_or}
use Rattle.std.proofs.lemmas.Bool.{cases_lt}
use Rattle.std.proofs.lemmas.Bool.Decides.{nat_tests}
use Rattle.std.proofs.lemmas.List.Elements.{All-from_get_or}
use Rattle.std.proofs.lemmas.Option.{slice_get_past}
use Rattle.std.proofs.lemmas.Slice.Zip.{AllZip-long}
use Rattle.plan_facts.specs.First.{first_fault}
use Rattle.plan_facts.specs.declared.record.Raw.{Raw}
use Rattle.plan_facts.specs.declared.record.ClassDef.{ClassDef}
use Rattle.plan_facts.specs.declared.fault.PlanFault.{PlanFault}
use Rattle.plan_facts.specs.declared.fault.PlanFault.TheVariants.{Memory, ClassCount, TooManyFacts}
use Rattle.plan_facts.specs.Plan.{ClassView, plan_with, ids_in, record_with_id, is_live, unplaced_of, IsPlan}
use Rattle.plan_facts.specs.PlanFaults.{class_with, plan_of, plan_fault, lists_fault, class_fault, class_values_fault}
use Rattle.plan_facts.specs.Refusal.{IsRefusal}
use Rattle.plan_facts.specs.Listed.{Ids, has_id, is_listed, HasIds, HaveIds}
use Rattle.plan_facts.proofs.Places.{eqb_same, eqb_other}
use Rattle.plan_facts.proofs.Sound.{class_past, few_unplaced}
use Rattle.plan_facts.proofs.ListFaults.{refused_first, passed_first}
use Rattle.plan_facts.proofs.PlanOf.{distinct_ids}
use Rattle.plan_facts.proofs.PlanMade.{def_at, raws_at, class_of-plan_of, count_of-plan_of, live-by_id, faultless}

-- the number of lists is wrong
pub wrong_lists : (classes : List ClassDef) (lists : List (List Raw)) → (length lists ≡ length classes → ⊥) → plan_fault classes lists ≡ Some ClassCount
unfolding plan_fault
wrong_lists classes lists wrong =
    ap (λ (b : Bool). option_or (cond b None (Some ClassCount)) (option_or (cond (nat_lt fact_limit (sum_by length lists)) (Some TooManyFacts) None) (lists_fault classes lists))) (eqb_other (length lists) (length classes) wrong)

-- where it is right, the number of records counts
counted : (classes : List ClassDef) (lists : List (List Raw)) → length lists ≡ length classes → plan_fault classes lists ≡ option_or (cond (nat_lt fact_limit (sum_by length lists)) (Some TooManyFacts) None) (lists_fault classes lists)
unfolding plan_fault
counted classes lists same =
    ap (λ (b : Bool). option_or (cond b None (Some ClassCount)) (option_or (cond (nat_lt fact_limit (sum_by length lists)) (Some TooManyFacts) None) (lists_fault classes lists))) (eqb_same (length lists) (length classes) same)

above : (a b : ℕ) → a < b → nat_lt a b ≡ true
above a b lt = grind (arith, nat_tests)

not_above : (a b : ℕ) → b ≤ a → nat_lt a b ≡ false
not_above a b le = grind (arith, nat_tests)

-- there are too many records
pub too_many : (classes : List ClassDef) (lists : List (List Raw)) → length lists ≡ length classes → fact_limit < sum_by length lists → plan_fault classes lists ≡ Some TooManyFacts
too_many classes lists same many =
    counted classes lists same ∙ ap (λ (b : Bool). option_or (cond b (Some TooManyFacts) None) (lists_fault classes lists)) (above fact_limit (sum_by length lists) many)

-- where they aren't, the records themselves count
pub records_count : (classes : List ClassDef) (lists : List (List Raw)) → length lists ≡ length classes → sum_by length lists ≤ fact_limit → plan_fault classes lists ≡ lists_fault classes lists
records_count classes lists same few =
    counted classes lists same ∙ ap (λ (b : Bool). option_or (cond b (Some TooManyFacts) None) (lists_fault classes lists)) (not_above fact_limit (sum_by length lists) few)

set_at : (lists : List (List Raw)) (sets : List Ids) (n id : ℕ) → HaveIds lists sets → n < length lists → is_listed sets n id ≡ is_some (record_with_id id (raws_at lists n))
set_at [] [] n id have within = absurd (omega arith)
set_at [] (set ∷ sets) n id have within = absurd have
set_at (raws ∷ lists) [] n id have within = absurd have
set_at (raws ∷ lists) (set ∷ sets) zero id have within = have.0 id
set_at (raws ∷ lists) (set ∷ sets) (suc n) id have within = set_at lists sets n id have.1 (omega arith)

-- the sets of ids say what is live in the plan
pub listed_live : (classes : List ClassDef) (lists : List (List Raw)) (sets : List Ids) → length lists ≡ length classes → HaveIds lists sets → (n id : ℕ) → is_listed sets n id ≡ is_live (plan_of classes lists) n id
listed_live classes lists sets same have n id =
    elim (cases_lt n (length classes)) [
      | inl within ↦
          set_at lists sets n id have (omega arith) ∙ sym (ap (λ (view : ClassView). is_some (record_with_id id view.facts)) (class_of-plan_of classes lists n same within) ∙ live-by_id (raws_at lists n) id)
      | inr past ↦
          let long = AllZip-long HasIds lists sets have in
          let count = count_of-plan_of classes lists same in
          ap (λ (o : Option Ids). option_map_or (λ ids. has_id ids id) o false) (slice_get_past sets n (omega arith))
          ∙ sym (ap (λ (view : ClassView). is_some (record_with_id id view.facts)) (class_past (plan_of classes lists) n (omega arith)))
    ]

-- the faults of values by the sets are those by the plan
pub same_faults : (classes : List ClassDef) (lists : List (List Raw)) (sets : List Ids) → length lists ≡ length classes → HaveIds lists sets → first_fault (class_values_fault (λ n id. is_listed sets n id)) [] (zip classes lists) ≡ first_fault (class_values_fault (is_live (plan_of classes lists))) [] (zip classes lists)
same_faults classes lists sets same have =
    ap (λ (live : ℕ → ℕ → Bool). first_fault (class_values_fault live) [] (zip classes lists)) (λ i n id. listed_live classes lists sets same have n id i)

-- the ids of each list without a fault differ
pub all_distinct : (classes : List ClassDef) (lists : List (List Raw)) → plan_fault classes lists ≡ None → All (λ raws. IsDistinct nat_eq (ids_in raws)) lists
all_distinct classes lists none =
    let good = faultless classes lists none in
    let same = good.same in
    All-from_get_or (λ (raws : List Raw). IsDistinct nat_eq (ids_in raws)) lists [] (λ n within.
    let there : n < length classes = omega arith in
    distinct_ids n (length (def_at classes n).fields) (raws_at lists n) (good.records n there))

-- the plan that the tables make
pub tables_plan : (classes : List ClassDef) (lists : List (List Raw)) (tables : List ClassView) (made : ℕ) → tables ≡ map (λ pair. class_with pair.0 pair.1) (zip classes lists) → made ≡ sum_by length lists → plan_with tables made ≡ plan_of classes lists
unfolding plan_of
tables_plan classes lists tables made tables_are made_is = λ i. plan_with (tables_are i) (made_is i)

-- records without a fault, whose values by the sets have none, make a plan without a fault
pub no_fault : (classes : List ClassDef) (lists : List (List Raw)) (sets : List Ids) → length lists ≡ length classes → sum_by length lists ≤ fact_limit → HaveIds lists sets → first_fault class_fault [] (zip classes lists) ≡ None → first_fault (class_values_fault (λ n id. is_listed sets n id)) [] (zip classes lists) ≡ None → plan_fault classes lists ≡ None
no_fault classes lists sets same few have records values =
    records_count classes lists same few ∙ passed_first _ _ _ refl records ∙ sym (same_faults classes lists sets same have) ∙ values

-- a refusal of the values by the sets is one of the lists
pub values_refused : (classes : List ClassDef) (lists : List (List Raw)) (sets : List Ids) (fault : PlanFault) → length lists ≡ length classes → sum_by length lists ≤ fact_limit → HaveIds lists sets → first_fault class_fault [] (zip classes lists) ≡ None → IsRefusal Memory (first_fault (class_values_fault (λ n id. is_listed sets n id)) [] (zip classes lists)) fault → IsRefusal Memory (plan_fault classes lists) fault
values_refused classes lists sets fault same few have records refused =
    subst (λ (whole : Option PlanFault). IsRefusal Memory whole fault) (same_faults classes lists sets same have ∙ sym (records_count classes lists same few ∙ passed_first _ _ _ refl records)) refused

-- a refusal of the records is one of the lists
pub records_refused : (classes : List ClassDef) (lists : List (List Raw)) (fault : PlanFault) → length lists ≡ length classes → sum_by length lists ≤ fact_limit → IsRefusal Memory (first_fault class_fault [] (zip classes lists)) fault → IsRefusal Memory (plan_fault classes lists) fault
records_refused classes lists fault same few refused = refused_first _ _ _ fault (records_count classes lists same few) refused

-- what the tables of lists without a fault make
pub record MakesPlan (classes : List ClassDef) (lists : List (List Raw)) (tables : List ClassView) (made : ℕ) : Type 0 where
  pub is : plan_with tables made ≡ plan_of classes lists
  pub sound : IsPlan (plan_with tables made)
  pub nulls : unplaced_of (plan_with tables 0) ≤ 3200000

pub makes_plan : (classes : List ClassDef) (lists : List (List Raw)) (tables : List ClassView) (made : ℕ) → IsPlan (plan_of classes lists) → made ≡ sum_by length lists → tables ≡ map (λ pair. class_with pair.0 pair.1) (zip classes lists) → MakesPlan classes lists tables made
makes_plan classes lists tables made plan made_is tables_are =
    let is = tables_plan classes lists tables made tables_are made_is in
    let sound : IsPlan (plan_with tables made) = subst IsPlan (sym is) plan in
    record { is = is; sound = sound; nulls = few_unplaced (plan_with tables made) sound }
