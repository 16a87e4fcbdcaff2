-- A plan with one record changed.
use Rattle.std.proofs.Common.{◌≡◌, ◌==◌, ◌<◌, ◌+◌, ◌∙◌, ℕ, ℤ, Bool, true, false, cond, Option, Some, None, IsTrue, IsSomeAnd, List, [], ◌∷◌, length, set, map, zip, get_or, eqb, refl, sym, ap, subst, inl, inr, arith, All, sum_by}
use Rattle.std.proofs.lemmas.Bool.{cases_eq, cases_lt}
use Rattle.std.proofs.lemmas.List.{length-set, get_or-set_same, get_or-set_other, get_or_default}
use Rattle.std.proofs.lemmas.List.Elements.{All-map, All-weaker, All-set}
use Rattle.std.proofs.lemmas.List.Sums.{sum_by-cons, sum_by-set}
use Rattle.std.proofs.lemmas.Slice.Zip.{length-zip, get_or-zip}
use Rattle.plan_facts.specs.declared.record.Raw.{Raw}
use Rattle.plan_facts.specs.Plan.{PlanView, ClassView, no_class, class_of, fact_of, record_with_id, ids_in, ids_of, AreIncreasing, range_of, is_nullable, missing_in, nulls_in, unplaced_of, is_value_of, IsFieldNumber, IsPlan, IsRecordOf}
use Rattle.plan_facts.specs.PlanChanges.{with_class, with_record, with_value, with_field}
use Rattle.plan_facts.proofs.Places.{same_eqb, increasing_head, increasing_tail, changed_none, ids_in-changed}
use Rattle.plan_facts.proofs.Lists.{zip-set}
use Rattle.plan_facts.proofs.Sound.{class_at, class_past, KeepsIds, kept_sound, AllZip-set, record_fits, missing}

-- a class with a live record is there
pub class_there : (plan : PlanView) (class id : ℕ) (P : Raw → Type 0) → IsSomeAnd (fact_of plan class id) P → class < length plan.classes
class_there plan class id P there =
    elim (cases_lt class (length plan.classes)) [ inl within ↦ within | inr past ↦ absurd (subst (λ (view : ClassView). IsSomeAnd (record_with_id id view.facts) P) (class_past plan class past) there) ]

-- what is so of each class, where one of them is put anew
pub each_class : (P : ℕ → ClassView → Type 0) (plan : PlanView) (class : ℕ) (view : ClassView) → class < length plan.classes → P class view → ((other : ℕ) → P other (class_of plan other)) → (other : ℕ) → P other (class_of (with_class plan class view) other)
each_class P plan class view within here rest other =
    elim (cases_eq other class) [
      | inl same ↦ subst (λ (n : ℕ). P n (class_of (with_class plan class view) n)) (sym same) (subst (P class) (sym (get_or-set_same plan.classes class view no_class within)) here)
      | inr apart ↦ subst (P other) (sym (get_or-set_other plan.classes class other view no_class apart)) (rest other)
    ]

-- a record is changed, and its id stays
pub changed_keeps : (plan : PlanView) (class id : ℕ) (change : Raw → Raw) → class < length plan.classes → ((raw : Raw) → (change raw).id ≡ raw.id) → KeepsIds plan (with_class plan class (with_record (class_of plan class) id change))
changed_keeps plan class id change within same =
    let view = with_record (class_of plan class) id change in
    record {
      made = refl;
      count = length-set plan.classes class view;
      fields = each_class (λ n v. v.fields ≡ (class_of plan n).fields) plan class view within refl (λ n. refl);
      ranges = each_class (λ n v. v.ranges ≡ (class_of plan n).ranges) plan class view within refl (λ n. refl);
      nullables = each_class (λ n v. v.nullables ≡ (class_of plan n).nullables) plan class view within refl (λ n. refl);
      greatest = each_class (λ n v. v.greatest ≡ (class_of plan n).greatest) plan class view within refl (λ n. refl);
      ids = each_class (λ n v. ids_in v.facts ≡ ids_of plan n) plan class view within (ids_in-changed (class_of plan class).facts id change same) (λ n. refl);
    }

-- the record that was changed, or another, fits
either_fits : (plan : PlanView) (view : ClassView) (id : ℕ) (change : Raw → Raw) (raw : Raw) → ((raw : Raw) → IsRecordOf plan view raw → IsRecordOf plan view (change raw)) → IsRecordOf plan view raw → IsRecordOf plan view (cond (raw.id == id) (change raw) raw)
either_fits plan view id change raw step fits = elim (eqb raw.id id) as (λ b. IsRecordOf plan view (cond b (change raw) raw)) [ true ↦ step raw fits | false ↦ fits ]

-- a change of a record that keeps its id, and after which it fits, keeps a plan sound
pub changed_sound : (plan : PlanView) (class id : ℕ) (change : Raw → Raw) → class < length plan.classes → IsPlan plan → ((raw : Raw) → (change raw).id ≡ raw.id) → ((raw : Raw) → IsRecordOf plan (class_of plan class) raw → IsRecordOf plan (class_of plan class) (change raw)) → IsPlan (with_class plan class (with_record (class_of plan class) id change))
changed_sound plan class id change within sound same step =
    let view = with_record (class_of plan class) id change in
    kept_sound plan (with_class plan class view) (changed_keeps plan class id change within same) sound
    (each_class (λ n v. n < length plan.classes → All (IsRecordOf plan (class_of plan n)) v.facts) plan class view within
    (λ there. All-map (IsRecordOf plan (class_of plan class)) (λ raw. cond (raw.id == id) (change raw) raw) (class_of plan class).facts (All-weaker (IsRecordOf plan (class_of plan class)) _ (λ raw fits. either_fits plan (class_of plan class) id change raw step fits) _ ((class_at plan class sound within).records)))
    (λ n there. (class_at plan n sound there).records))

pub with_value_sound : (plan : PlanView) (class id var : ℕ) (value : Option ℕ) → class < length plan.classes → IsPlan plan → is_value_of plan (range_of plan class var) value ≡ true → IsPlan (with_value plan class id var value)
unfolding with_value
with_value_sound plan class id var value within sound good =
    changed_sound plan class id (λ raw. record raw { values = set raw.values var value }) within sound (λ raw. refl)
    (λ raw fits. record { fields = fits.fields; numbers = fits.numbers; values = AllZip-set (λ range v. IsTrue (is_value_of plan range v)) (class_of plan class).ranges raw.values var 0 value fits.values good })

pub with_field_sound : (plan : PlanView) (class id field : ℕ) (number : ℤ) → class < length plan.classes → IsPlan plan → IsFieldNumber number → IsPlan (with_field plan class id field number)
unfolding with_field
with_field_sound plan class id field number within sound good =
    changed_sound plan class id (λ raw. record raw { fields = set raw.fields field number }) within sound (λ raw. refl)
    (λ raw fits. record { fields = length-set raw.fields field number ∙ fits.fields; numbers = All-set IsFieldNumber raw.fields field number good fits.numbers; values = fits.values })

-- how many of a record's values are missing
abbrev nulls : List Bool → Raw → ℕ
nulls nullables raw = missing_in nullables raw.values

-- a change of one record changes the count of missing values by its own
nulls_in-changed : (nullables : List Bool) (facts : List Raw) (id : ℕ) (change : Raw → Raw) (raw : Raw) → AreIncreasing (ids_in facts) → record_with_id id facts ≡ Some raw → nulls_in nullables (map (λ r. cond (r.id == id) (change r) r) facts) + nulls nullables raw ≡ nulls_in nullables facts + nulls nullables (change raw)
nulls_in-changed nullables [] id change raw up found = cc
nulls_in-changed nullables (first ∷ facts) id change raw up found =
    let changed = λ (r : Raw). cond (r.id == id) (change r) r in
    let new = sum_by-cons (nulls nullables) (changed first) (map changed facts) in
    let old = sum_by-cons (nulls nullables) first facts in
    elim (eqb first.id id) as (λ b. eqb first.id id ≡ b → nulls_in nullables (map changed (first ∷ facts)) + nulls nullables raw ≡ nulls_in nullables (first ∷ facts) + nulls nullables (change raw)) [
      | true ↦ λ is.
          let same : first ≡ raw = (let e : Some first ≡ Some raw = sym (ap (λ (b : Bool). cond b (Some first) (record_with_id id facts)) is) ∙ found in cc) in
          let one : nulls nullables (changed first) ≡ nulls nullables (change raw) = ap (λ (b : Bool). nulls nullables (cond b (change first) first)) is ∙ ap (λ (r : Raw). nulls nullables (change r)) same in
          let rest : nulls_in nullables (map changed facts) ≡ nulls_in nullables facts = ap (nulls_in nullables) (changed_none facts id change (λ k d there. let h = increasing_head first.id (ids_in facts) up k d there in let e = same_eqb first.id id is in omega arith)) in
          let here = ap (nulls nullables) same in
          omega arith
      | false ↦ λ is.
          let there : record_with_id id facts ≡ Some raw = sym (ap (λ (b : Bool). cond b (Some first) (record_with_id id facts)) is) ∙ found in
          let rest = nulls_in-changed nullables facts id change raw (increasing_tail first.id (ids_in facts) up) there in
          let one : nulls nullables (changed first) ≡ nulls nullables first = ap (λ (b : Bool). nulls nullables (cond b (change first) first)) is in
          omega arith
    ] refl

-- a change of one record of a plan changes the count of missing values by its own
pub unplaced_of-changed : (plan : PlanView) (class id : ℕ) (change : Raw → Raw) (raw : Raw) → class < length plan.classes → IsPlan plan → fact_of plan class id ≡ Some raw → unplaced_of (with_class plan class (with_record (class_of plan class) id change)) + nulls (class_of plan class).nullables raw ≡ unplaced_of plan + nulls (class_of plan class).nullables (change raw)
unplaced_of-changed plan class id change raw within sound found =
    let view = with_record (class_of plan class) id change in
    let whole = sum_by-set (λ (v : ClassView). nulls_in v.nullables v.facts) plan.classes class view no_class within in
    let part = nulls_in-changed (class_of plan class).nullables (class_of plan class).facts id change raw (class_at plan class sound within).increasing found in
    omega arith

-- the plan once the table of its class was set
pub set_is : (plan : PlanView) (class id var : ℕ) (value : Option ℕ) (table new : ClassView) → table ≡ class_of plan class → new ≡ with_record table id (λ raw. record raw { values = set raw.values var value }) → with_class plan class new ≡ with_value plan class id var value
unfolding with_value
set_is plan class id var value table new same is =
    ap (with_class plan class) (is ∙ ap (λ (view : ClassView). with_record view id (λ raw. record raw { values = set raw.values var value })) same)

pub set_field_is : (plan : PlanView) (class id field : ℕ) (number : ℤ) (table new : ClassView) → table ≡ class_of plan class → new ≡ with_record table id (λ raw. record raw { fields = set raw.fields field number }) → with_class plan class new ≡ with_field plan class id field number
unfolding with_field
set_field_is plan class id field number table new same is =
    ap (with_class plan class) (is ∙ ap (λ (view : ClassView). with_record view id (λ raw. record raw { fields = set raw.fields field number })) same)

-- what setting one value does to the count of missing ones
missing_in-set : (nullables : List Bool) (values : List (Option ℕ)) (var : ℕ) (value held : Option ℕ) → var < length nullables → var < length values → held ≡ get_or values var held → missing_in nullables (set values var value) + missing (get_or nullables var false, held) ≡ missing_in nullables values + missing (get_or nullables var false, value)
missing_in-set nullables values var value held in_nullables in_values was =
    let long = length-zip nullables values in
    let at = get_or-zip nullables values var (false, held) in_nullables in_values in
    let part = sum_by-set missing (zip nullables values) var (get_or nullables var false, value) (false, held) (omega arith) in
    let e = ap missing (at ∙ ap (λ (v : Option ℕ). (get_or nullables var false, v)) (sym was)) in
    let now = ap (sum_by missing) (zip-set nullables values var false value) in
    omega arith

set_counts_at : (plan : PlanView) (class id var : ℕ) (value held : Option ℕ) (found : Option Raw) → class < length plan.classes → IsPlan plan → fact_of plan class id ≡ found → IsSomeAnd found (λ raw. var < length raw.values) → IsSomeAnd found (λ raw. held ≡ get_or raw.values var held) → unplaced_of (with_value plan class id var value) + missing (is_nullable plan class var, held) ≡ unplaced_of plan + missing (is_nullable plan class var, value)
unfolding with_value
set_counts_at plan class id var value held None within sound is there was = absurd there
set_counts_at plan class id var value held (Some raw) within sound is there was =
    let change = λ (r : Raw). let s : Raw = record r { values = set r.values var value } in s in
    let whole = unplaced_of-changed plan class id change raw within sound is in
    let sound_class = class_at plan class sound within in
    let same = record_fits plan (class_of plan class) id raw sound_class is in
    let counted = sound_class.nullables in
    let in_values : var < length raw.values = there in
    let part = missing_in-set (class_of plan class).nullables raw.values var value held (omega arith) there was in
    omega arith

-- what setting a variable does to the count of missing values
pub set_counts : (plan : PlanView) (class id var : ℕ) (value held : Option ℕ) (table : ClassView) → IsPlan plan → table ≡ class_of plan class → IsSomeAnd (fact_of plan class id) (λ raw. var < length raw.values) → IsSomeAnd (record_with_id id table.facts) (λ raw. held ≡ get_or raw.values var held) → unplaced_of (with_value plan class id var value) + missing (is_nullable plan class var, held) ≡ unplaced_of plan + missing (is_nullable plan class var, value)
set_counts plan class id var value held table sound same there was =
    set_counts_at plan class id var value held (fact_of plan class id) (class_there plan class id _ there) sound refl there (subst (λ (view : ClassView). IsSomeAnd (record_with_id id view.facts) (λ raw. held ≡ get_or raw.values var held)) same was)

set_field_counts_at : (plan : PlanView) (class id field : ℕ) (number : ℤ) (P : Raw → Type 0) (found : Option Raw) → class < length plan.classes → IsPlan plan → fact_of plan class id ≡ found → IsSomeAnd found P → unplaced_of (with_field plan class id field number) ≡ unplaced_of plan
unfolding with_field
set_field_counts_at plan class id field number P None within sound is there = absurd there
set_field_counts_at plan class id field number P (Some raw) within sound is there =
    let change = λ (r : Raw). let s : Raw = record r { fields = set r.fields field number } in s in
    let whole = unplaced_of-changed plan class id change raw within sound is in
    omega arith

-- setting a field makes no value missing
pub set_field_counts : (plan : PlanView) (class id field : ℕ) (number : ℤ) (P : Raw → Type 0) → IsPlan plan → IsSomeAnd (fact_of plan class id) P → unplaced_of (with_field plan class id field number) ≡ unplaced_of plan
set_field_counts plan class id field number P sound there =
    set_field_counts_at plan class id field number P (fact_of plan class id) (class_there plan class id P there) sound refl there

-- what setting a variable in the table of its class gives
pub record WasSet (plan : PlanView) (class id var : ℕ) (value held : Option ℕ) (nullable : Bool) (new : ClassView) : Type 0 where
  pub is : with_class plan class new ≡ with_value plan class id var value
  pub sound : IsPlan (with_class plan class new)
  pub counts : unplaced_of (with_class plan class new) + missing (nullable, held) ≡ unplaced_of plan + missing (nullable, value)

pub was_set : (plan : PlanView) (class id var : ℕ) (value held : Option ℕ) (nullable : Bool) (table new : ClassView) → nullable ≡ get_or table.nullables var false → IsPlan plan → table ≡ get_or plan.classes class table → IsSomeAnd (fact_of plan class id) (λ raw. var < length raw.values) → is_value_of plan (range_of plan class var) value ≡ true → IsSomeAnd (record_with_id id table.facts) (λ raw. held ≡ get_or raw.values var held) → new ≡ with_record table id (λ raw. record raw { values = set raw.values var value }) → WasSet plan class id var value held nullable new
was_set plan class id var value held nullable table new may sound read there good was is =
    let within = class_there plan class id _ there in
    let same : table ≡ class_of plan class = read ∙ get_or_default plan.classes class table no_class within in
    let after = set_is plan class id var value table new same is in
    record {
      is = after;
      sound = rw after (with_value_sound plan class id var value within sound good);
      counts = (
          let e = ap unplaced_of after in
          let h = set_counts plan class id var value held table sound same there was in
          let here : nullable ≡ is_nullable plan class var = may ∙ ap (λ (view : ClassView). get_or view.nullables var false) same in
          let old = ap (λ (b : Bool). missing (b, held)) here in
          let now = ap (λ (b : Bool). missing (b, value)) here in
          omega arith);
    }

-- what setting a field in the table of its class gives
pub record WasSetField (plan : PlanView) (class id field : ℕ) (number : ℤ) (new : ClassView) : Type 0 where
  pub is : with_class plan class new ≡ with_field plan class id field number
  pub sound : IsPlan (with_class plan class new)
  pub counts : unplaced_of (with_class plan class new) ≡ unplaced_of plan

pub was_set_field : (plan : PlanView) (class id field : ℕ) (number : ℤ) (table new : ClassView) → IsPlan plan → table ≡ get_or plan.classes class table → IsSomeAnd (fact_of plan class id) (λ raw. field < length raw.fields) → IsFieldNumber number → new ≡ with_record table id (λ raw. record raw { fields = set raw.fields field number }) → WasSetField plan class id field number new
was_set_field plan class id field number table new sound read there good is =
    let within = class_there plan class id _ there in
    let same : table ≡ class_of plan class = read ∙ get_or_default plan.classes class table no_class within in
    let after = set_field_is plan class id field number table new same is in
    record {
      is = after;
      sound = rw after (with_field_sound plan class id field number within sound good);
      counts = ap unplaced_of after ∙ set_field_counts plan class id field number _ sound there;
    }
