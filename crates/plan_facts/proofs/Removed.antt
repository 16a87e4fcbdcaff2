-- A plan without one of its facts.
use Rattle.std.proofs.Common.{◌≡◌, ◌==◌, ◌<◌, ◌≤◌, ◌∙◌, ℕ, zero, suc, Bool, true, false, cond, not, ◌&&◌, Option, Some, None, is_some, IsTrue, List, [], ◌∷◌, length, zip, map, filter, set, get_or, eqb, refl, sym, ap, subst, inl, inr, arith, All, sum_by}
use Rattle.std.specs.List.{AllZip, list_any}
use Rattle.std.proofs.lemmas.Bool.{cases_lt, false≢true}
use Rattle.std.proofs.lemmas.List.{length-set, length-map, get_or_default}
use Rattle.std.proofs.lemmas.List.Elements.{All-from_get_or, All-weaker, All-map, All-filter, All-set}
use Rattle.std.proofs.lemmas.List.Kept.{AllPairs-filter}
use Rattle.std.proofs.lemmas.List.Sums.{sum_by-cons, sum_by-set, length-filter, count_by-le-length}
use Rattle.std.proofs.lemmas.Slice.Zip.{AllZip-long}
use Rattle.plan_facts.specs.declared.record.Raw.{Raw}
use Rattle.plan_facts.specs.Plan.{PlanView, ClassView, no_class, class_of, plan_with, record_with_id, is_live, ids_in, AreIncreasing, unplaced_of, is_value_of, IsPlan, IsClassOf, IsValueClass, IsRecordOf}
use Rattle.plan_facts.specs.PlanChanges.{with_class, let_go, record_let_go, class_let_go, without_record, without_fact}
use Rattle.plan_facts.proofs.Places.{eqb_other, same_eqb, other_eqb}
use Rattle.plan_facts.proofs.Sound.{class_at, class_past, live_by_ids, few_unplaced}
use Rattle.plan_facts.proofs.Changed.{each_class}
use Rattle.plan_facts.proofs.Gone.{ids_in-let_go}

-- a member of a mapped list, where the function keeps what stands past the end
get_or-mapped : {X : Type 0} (f : X → X) (d : X) → f d ≡ d → (xs : List X) (k : ℕ) → get_or (map f xs) k d ≡ f (get_or xs k d)
get_or-mapped f d same [] k = sym same
get_or-mapped f d same (x ∷ xs) zero = refl
get_or-mapped f d same (x ∷ xs) (suc k) = get_or-mapped f d same xs k

-- the plan without the record, before the variables let it go
abbrev pub taken_out : PlanView → ℕ → ℕ → PlanView
taken_out plan class id = with_class plan class (without_record (class_of plan class) id)

-- the plan without the fact, by its classes
abbrev pub emptied : PlanView → ℕ → ℕ → PlanView
emptied plan class id = plan_with (map (class_let_go class id) (taken_out plan class id).classes) plan.made

pub without_fact_is : (plan : PlanView) (class id : ℕ) → without_fact plan class id ≡ emptied plan class id
unfolding without_fact
without_fact_is plan class id = refl

class_of-emptied : (plan : PlanView) (class id n : ℕ) → class_of (emptied plan class id) n ≡ class_let_go class id (class_of (taken_out plan class id) n)
class_of-emptied plan class id n = get_or-mapped (class_let_go class id) no_class refl (taken_out plan class id).classes n

-- what is so of each class once the fact is gone
each_emptied : (P : ℕ → ClassView → Type 0) (plan : PlanView) (class id : ℕ) → class < length plan.classes → P class (class_let_go class id (without_record (class_of plan class) id)) → ((n : ℕ) → P n (class_let_go class id (class_of plan n))) → (n : ℕ) → P n (class_of (emptied plan class id) n)
each_emptied P plan class id within here rest n =
    subst (P n) (sym (class_of-emptied plan class id n)) (each_class (λ k view. P k (class_let_go class id view)) plan class (without_record (class_of plan class) id) within here rest n)

-- a record with another id is still live once one is taken out
live_without : (facts : List Raw) (id other : ℕ) → (other ≡ id → ⊥) → is_some (record_with_id other facts) ≡ true → is_some (record_with_id other (filter (λ raw. not (raw.id == id)) facts)) ≡ true
live_without [] id other apart live = live
live_without (raw ∷ facts) id other apart live =
    let rest = filter (λ (r : Raw). not (r.id == id)) facts in
    elim (eqb raw.id id) as (λ b. eqb raw.id id ≡ b → is_some (record_with_id other (cond (not b) (raw ∷ rest) rest)) ≡ true) [
      | true ↦ λ is.
          let other_id : raw.id ≡ other → ⊥ = λ e. apart (sym e ∙ same_eqb raw.id id is) in
          live_without facts id other apart (sym (ap (λ (b : Bool). is_some (cond b (Some raw) (record_with_id other facts))) (eqb_other raw.id other other_id)) ∙ live)
      | false ↦ λ is.
          elim (eqb raw.id other) as (λ b. is_some (cond b (Some raw) (record_with_id other facts)) ≡ true → is_some (cond b (Some raw) (record_with_id other rest)) ≡ true) [
            | true ↦ λ was. refl
            | false ↦ λ was. live_without facts id other apart was
          ] live
    ] refl

-- what lets a fact go is as live as before
live_let_go : (class id : ℕ) (view : ClassView) (other : ℕ) → is_some (record_with_id other (class_let_go class id view).facts) ≡ is_some (record_with_id other view.facts)
live_let_go class id view other =
    live_by_ids (class_let_go class id view).facts other ∙ ap (list_any (λ n. n == other)) (ids_in-let_go class id view.ranges view.facts) ∙ sym (live_by_ids view.facts other)

-- every other fact is still live
still_live : (plan : PlanView) (class id : ℕ) → class < length plan.classes → (n other : ℕ) → (n ≡ class → other ≡ id → ⊥) → is_live plan n other ≡ true → is_live (emptied plan class id) n other ≡ true
still_live plan class id within n other apart live =
    each_emptied (λ k view. (k ≡ class → other ≡ id → ⊥) → is_live plan k other ≡ true → is_some (record_with_id other view.facts) ≡ true) plan class id within
    (λ not_it was. live_let_go class id (without_record (class_of plan class) id) other ∙ live_without (class_of plan class).facts id other (not_it refl) was)
    (λ k not_it was. live_let_go class id (class_of plan k) other ∙ was) n apart live

-- what a variable holds then is null or live
still_value : (plan : PlanView) (class id : ℕ) → class < length plan.classes → (range : ℕ) (value : Option ℕ) → is_value_of plan range value ≡ true → is_value_of (emptied plan class id) range (let_go class id range value) ≡ true
still_value plan class id within range None was = refl
still_value plan class id within range (Some held) was =
    let after = emptied plan class id in
    elim (eqb range class) as (λ b. eqb range class ≡ b → is_value_of after range (cond (b && (held == id)) None (Some held)) ≡ true) [
      | true ↦ λ same.
          elim (eqb held id) as (λ b. eqb held id ≡ b → is_value_of after range (cond b None (Some held)) ≡ true) [
            | true ↦ λ it. refl
            | false ↦ λ other. still_live plan class id within range held (λ r h. other_eqb held id other h) was
          ] refl
      | false ↦ λ apart. still_live plan class id within range held (λ r h. other_eqb range class apart r) was
    ] refl

-- a relation place by place, once the second list is made from both
AllZip-mapped : {A B : Type 0} (R S : A → B → Type 0) (f : A × B → B) → ((x : A) (y : B) → R x y → S x (f (x, y))) → (xs : List A) (ys : List B) → AllZip R xs ys → AllZip S xs (map f (zip xs ys))
AllZip-mapped R S f step [] [] all = all
AllZip-mapped R S f step [] (y ∷ ys) all = absurd all
AllZip-mapped R S f step (x ∷ xs) [] all = absurd all
AllZip-mapped R S f step (x ∷ xs) (y ∷ ys) all = (step x y all.0, AllZip-mapped R S f step xs ys all.1)

-- a record that lets the fact go fits
record_emptied : (plan : PlanView) (class id : ℕ) → class < length plan.classes → (view : ClassView) (raw : Raw) → IsRecordOf plan view raw → IsRecordOf (emptied plan class id) (class_let_go class id view) (record_let_go class id view.ranges raw)
record_emptied plan class id within view raw fits =
    record {
      fields = fits.fields;
      numbers = fits.numbers;
      values = AllZip-mapped (λ range value. IsTrue (is_value_of plan range value)) (λ range value. IsTrue (is_value_of (emptied plan class id) range value)) (λ pair. let_go class id pair.0 pair.1) (still_value plan class id within) view.ranges raw.values fits.values;
    }

range_emptied : (plan : PlanView) (class id : ℕ) → class < length plan.classes → (range : ℕ) → IsValueClass plan range → IsValueClass (emptied plan class id) range
range_emptied plan class id within range is =
    record {
      there = (let one = length-set plan.classes class (without_record (class_of plan class) id) in let all = length-map (taken_out plan class id).classes (class_let_go class id) in let there = is.there in omega arith);
      plain = each_emptied (λ n view. view.ranges ≡ (class_of plan n).ranges) plan class id within refl (λ n. refl) range ∙ is.plain;
    }

-- a class that lets the fact go is as the plan says
class_emptied : (plan : PlanView) (class id : ℕ) → class < length plan.classes → (view : ClassView) → IsClassOf plan view → IsClassOf (emptied plan class id) (class_let_go class id view)
class_emptied plan class id within view is =
    let ids = ids_in-let_go class id view.ranges view.facts in
    record {
      few_fields = is.few_fields;
      few_variables = is.few_variables;
      ranges = All-weaker (IsValueClass plan) _ (range_emptied plan class id within) view.ranges is.ranges;
      nullables = is.nullables;
      increasing = subst AreIncreasing (sym ids) is.increasing;
      ids = subst (All (λ n. (1 ≤ n) × (n ≤ view.greatest))) (sym ids) is.ids;
      greatest = is.greatest;
      records = All-map (IsRecordOf (emptied plan class id) (class_let_go class id view)) (record_let_go class id view.ranges) view.facts (All-weaker (IsRecordOf plan view) _ (record_emptied plan class id within view) view.facts is.records);
    }

ids_in-filter : (facts : List Raw) (id : ℕ) → ids_in (filter (λ raw. not (raw.id == id)) facts) ≡ filter (λ n. not (n == id)) (ids_in facts)
ids_in-filter [] id = refl
ids_in-filter (raw ∷ facts) id =
    elim (eqb raw.id id) as (λ b. ids_in (cond (not b) (raw ∷ filter (λ r. not (r.id == id)) facts) (filter (λ r. not (r.id == id)) facts)) ≡ cond (not b) (raw.id ∷ filter (λ n. not (n == id)) (ids_in facts)) (filter (λ n. not (n == id)) (ids_in facts))) [
      | true ↦ ids_in-filter facts id
      | false ↦ ap (λ (ids : List ℕ). raw.id ∷ ids) (ids_in-filter facts id)
    ]

-- a class without one of its records is still as the plan says
pub class_without : (plan : PlanView) (view : ClassView) (id : ℕ) → IsClassOf plan view → IsClassOf plan (without_record view id)
class_without plan view id is =
    let ids = ids_in-filter view.facts id in
    record {
      few_fields = is.few_fields;
      few_variables = is.few_variables;
      ranges = is.ranges;
      nullables = is.nullables;
      increasing = subst AreIncreasing (sym ids) (AllPairs-filter (λ (one other : ℕ). one < other) (λ n. not (n == id)) (ids_in view.facts) is.increasing);
      ids = subst (All (λ n. (1 ≤ n) × (n ≤ view.greatest))) (sym ids) (All-filter (λ n. not (n == id)) (λ n. (1 ≤ n) × (n ≤ view.greatest)) (ids_in view.facts) is.ids);
      greatest = is.greatest;
      records = All-filter (λ raw. not (raw.id == id)) (IsRecordOf plan (without_record view id)) view.facts (All-weaker (IsRecordOf plan view) (IsRecordOf plan (without_record view id)) (λ raw fits. record { fields = fits.fields; numbers = fits.numbers; values = fits.values }) view.facts is.records);
    }

-- a sum over a mapped list whose terms stay
sum_by-mapped : {X : Type 0} (f : X → ℕ) (change : X → X) → ((x : X) → f (change x) ≡ f x) → (xs : List X) → sum_by f (map change xs) ≡ sum_by f xs
sum_by-mapped f change same [] = refl
sum_by-mapped f change same (x ∷ xs) =
    let one = same x in
    let rest = sum_by-mapped f change same xs in
    omega (arith, sum_by-cons f (change x) (map change xs), sum_by-cons f x xs)

-- a plan without one of its facts is sound
pub emptied_sound : (plan : PlanView) (class id : ℕ) → class < length plan.classes → IsPlan plan → IsPlan (emptied plan class id)
emptied_sound plan class id within sound =
    let after = emptied plan class id in
    let rest = without_record (class_of plan class) id in
    let one = length-set plan.classes class rest in
    let all = length-map (taken_out plan class id).classes (class_let_go class id) in
    let gone = sum_by-mapped (λ (view : ClassView). length view.facts) (class_let_go class id) (λ view. length-map view.facts (record_let_go class id view.ranges)) (taken_out plan class id).classes in
    let put = sum_by-set (λ (view : ClassView). length view.facts) plan.classes class rest no_class within in
    let kept = length-filter (λ (raw : Raw). not (raw.id == id)) (class_of plan class).facts in
    let fewer = count_by-le-length (λ (raw : Raw). not (raw.id == id)) (class_of plan class).facts in
    record {
      few_classes = (let h = sound.few_classes in omega arith);
      classes = All-from_get_or (IsClassOf after) after.classes no_class (λ n there.
          each_emptied (λ k view. k < length plan.classes → IsClassOf after view) plan class id within
          (λ in'. class_emptied plan class id within rest (class_without plan (class_of plan class) id (class_at plan class sound within)))
          (λ k in'. class_emptied plan class id within (class_of plan k) (class_at plan k sound in')) n (omega arith));
      live = (let h = sound.live in omega arith);
      made = sound.made;
    }

-- each record has a value for each variable, also with one record taken out
pub values_counted : (plan : PlanView) (class id : ℕ) → class < length plan.classes → IsPlan plan → All (λ view. All (λ raw. length raw.values ≡ length view.ranges) view.facts) (taken_out plan class id).classes
values_counted plan class id within sound =
    let counts : (view : ClassView) → IsClassOf plan view → All (λ raw. length raw.values ≡ length view.ranges) view.facts = λ view is. All-weaker (IsRecordOf plan view) (λ raw. length raw.values ≡ length view.ranges) (λ raw fits. AllZip-long _ _ _ fits.values) view.facts is.records in
    All-set (λ view. All (λ raw. length raw.values ≡ length view.ranges) view.facts) plan.classes class (without_record (class_of plan class) id)
    (counts (without_record (class_of plan class) id) (class_without plan (class_of plan class) id (class_at plan class sound within)))
    (All-weaker (IsClassOf plan) (λ view. All (λ raw. length raw.values ≡ length view.ranges) view.facts) counts plan.classes sound.classes)

-- what taking a record out of the table of its class gives
pub record WasRemoved (plan : PlanView) (class id : ℕ) (new : ClassView) : Type 0 where
  pub counted : All (λ view. All (λ raw. length raw.values ≡ length view.ranges) view.facts) (set plan.classes class new)
  pub is : plan_with (map (class_let_go class id) (set plan.classes class new)) plan.made ≡ without_fact plan class id
  pub sound : IsPlan (plan_with (map (class_let_go class id) (set plan.classes class new)) plan.made)
  pub few : unplaced_of (plan_with (map (class_let_go class id) (set plan.classes class new)) 0) ≤ 3200000

pub was_removed : (plan : PlanView) (class id : ℕ) (table new : ClassView) → class < length plan.classes → IsPlan plan → table ≡ get_or plan.classes class table → new ≡ without_record table id → WasRemoved plan class id new
was_removed plan class id table new within sound read is =
    let same : table ≡ class_of plan class = read ∙ get_or_default plan.classes class table no_class within in
    let rest : new ≡ without_record (class_of plan class) id = is ∙ ap (λ (view : ClassView). without_record view id) same in
    let after = ap (λ (view : ClassView). plan_with (map (class_let_go class id) (set plan.classes class view)) plan.made) rest in
    let good = emptied_sound plan class id within sound in
    let few = few_unplaced (emptied plan class id) good in
    let nulls = ap unplaced_of after in
    record {
      counted = subst (λ (view : ClassView). All (λ v. All (λ raw. length raw.values ≡ length v.ranges) v.facts) (set plan.classes class view)) (sym rest) (values_counted plan class id within sound);
      is = after ∙ sym (without_fact_is plan class id);
      sound = subst IsPlan (sym after) good;
      few = omega arith;
    }

-- a class with a live fact is there
pub live_class : (plan : PlanView) (class id : ℕ) → is_live plan class id ≡ true → class < length plan.classes
live_class plan class id live =
    elim (cases_lt class (length plan.classes)) [ inl within ↦ within | inr past ↦ absurd (false≢true (subst (λ (view : ClassView). is_some (record_with_id id view.facts) ≡ true) (class_past plan class past) live)) ]
