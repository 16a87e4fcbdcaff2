-- A plan with one more fact.
use Rattle.plan_facts.specs.Limits.{fact_limit}
use Rattle.std.proofs.Common.{◌≡◌, ◌<◌, ◌≤◌, ◌+◌, ◌∙◌, ℕ, ℤ, Bool, true, false, cond, nat_lt, Option, Some, None, is_some, IsTrue, List, [], ◌∷◌, ◌++◌, length, set, get_or, eqb, refl, sym, ap, subst, arith, All}
use Rattle.std.specs.List.{AllZip}
use Rattle.std.specs.Option.{option_or}
use Rattle.std.proofs.lemmas.Bool.Decides.{nat_tests}
use Rattle.std.proofs.lemmas.List.{length-set, length_push, get_or_default, map_push}
use Rattle.std.proofs.lemmas.List.Elements.{All-from_get_or, All-weaker, All-push}
use Rattle.std.proofs.lemmas.List.Quantifiers.{all_pairs_push}
use Rattle.std.proofs.lemmas.List.Sums.{sum_by-set, sum_by_push}
use Rattle.plan_facts.specs.declared.record.Raw.{Raw}
use Rattle.plan_facts.specs.declared.fault.PlanFault.{PlanFault}
use Rattle.plan_facts.specs.declared.fault.PlanFault.TheVariants.{TooManyFacts}
use Rattle.plan_facts.specs.Plan.{PlanView, ClassView, no_class, class_of, plan_with, record_with_id, is_live, ids_in, next_id_of, AreIncreasing, missing_in, nulls_in, unplaced_of, is_value_of, IsFieldNumber, IsPlan, IsClassOf, IsValueClass, IsRecordOf}
use Rattle.plan_facts.specs.PlanChanges.{with_fact}
use Rattle.plan_facts.specs.PlanFaults.{fields_fault, values_fault, add_fault}
use Rattle.plan_facts.proofs.FirstLaws.{option_or-none}
use Rattle.plan_facts.proofs.Sound.{class_at, AllZip-weaker, missing_in-le}
use Rattle.plan_facts.proofs.Changed.{each_class}
use Rattle.plan_facts.proofs.ListedLaws.{live_push}
use Rattle.plan_facts.proofs.PlanOf.{held_none, fields_fit, values_fit}

below : (a b : ℕ) → a < b → nat_lt a b ≡ true
below a b lt = grind (arith, nat_tests)

-- where there is room and the fields are good, the values count
pub values_count : (plan : PlanView) (class : ℕ) (fields : List ℤ) (values : List (Option ℕ)) (fault : PlanFault) → plan.made < fact_limit → None ≡ fields_fault class (next_id_of plan class) (class_of plan class).fields fields → Some fault ≡ values_fault (is_live plan) class (next_id_of plan class) (class_of plan class).ranges values → Some fault ≡ add_fault plan class fields values
unfolding add_fault
values_count plan class fields values fault room good bad =
    bad
    ∙ ap (λ (o : Option PlanFault). option_or o (values_fault (is_live plan) class (next_id_of plan class) (class_of plan class).ranges values)) good
    ∙ ap (λ (b : Bool). option_or (cond b None (Some TooManyFacts)) (option_or (fields_fault class (next_id_of plan class) (class_of plan class).fields fields) (values_fault (is_live plan) class (next_id_of plan class) (class_of plan class).ranges values))) (sym (below plan.made fact_limit room))

-- what a fact without a fault is like
pub record GoodFact (plan : PlanView) (class : ℕ) (fields : List ℤ) (values : List (Option ℕ)) : Type 0 where
  pub room : plan.made < fact_limit
  pub counted : length fields ≡ (class_of plan class).fields
  pub numbers : All IsFieldNumber fields
  pub held : AllZip (λ range value. IsTrue (is_value_of plan range value)) (class_of plan class).ranges values

pub good_fact : (plan : PlanView) (class : ℕ) (fields : List ℤ) (values : List (Option ℕ)) → add_fault plan class fields values ≡ None → GoodFact plan class fields values
unfolding add_fault
good_fact plan class fields values none =
    let first = option_or-none (cond (nat_lt plan.made fact_limit) None (Some TooManyFacts)) _ none in
    let room = held_none _ _ first.0 in
    let parts = option_or-none (fields_fault class (next_id_of plan class) (class_of plan class).fields fields) _ first.1 in
    let fit = fields_fit class (next_id_of plan class) (class_of plan class).fields fields parts.0 in
    record { room = grind (arith, nat_tests); counted = fit.0; numbers = fit.1; held = values_fit (is_live plan) class (next_id_of plan class) (class_of plan class).ranges values parts.1 }

-- the class with one more fact
abbrev pub grown : PlanView → ℕ → List ℤ → List (Option ℕ) → ClassView
grown plan class fields values =
    let old = class_of plan class in
    let raw : Raw = record { id = next_id_of plan class; fields = fields; values = values; pinned = false } in
    record old { facts = old.facts ++ raw ∷ []; greatest = next_id_of plan class }

-- the plan with one more fact, by its class
pub with_fact_is : (plan : PlanView) (class : ℕ) (fields : List ℤ) (values : List (Option ℕ)) → with_fact plan class fields values ≡ plan_with (set plan.classes class (grown plan class fields values)) (plan.made + 1)
unfolding with_fact
with_fact_is plan class fields values = refl

-- what is so of each class, where one of them has one more fact
each_grown : (P : ℕ → ClassView → Type 0) (plan : PlanView) (class : ℕ) (fields : List ℤ) (values : List (Option ℕ)) → class < length plan.classes → P class (grown plan class fields values) → ((n : ℕ) → P n (class_of plan n)) → (n : ℕ) → P n (class_of (plan_with (set plan.classes class (grown plan class fields values)) (plan.made + 1)) n)
each_grown P plan class fields values within here rest = each_class P plan class (grown plan class fields values) within here rest

either_true : (b : Bool) → cond b true true ≡ true
either_true true = refl
either_true false = refl

-- what was live stays live
live_stays : (plan : PlanView) (class : ℕ) (fields : List ℤ) (values : List (Option ℕ)) → class < length plan.classes → (range id : ℕ) → is_live plan range id ≡ true → is_live (plan_with (set plan.classes class (grown plan class fields values)) (plan.made + 1)) range id ≡ true
live_stays plan class fields values within range id live =
    each_grown (λ n view. is_live plan n id ≡ true → is_some (record_with_id id view.facts) ≡ true) plan class fields values within
    (λ was. live_push (class_of plan class).facts (record { id = next_id_of plan class; fields = fields; values = values; pinned = false }) id ∙ ap (cond (eqb (next_id_of plan class) id) true) was ∙ either_true (eqb (next_id_of plan class) id))
    (λ n was. was) range live

value_stays : (plan : PlanView) (class : ℕ) (fields : List ℤ) (values : List (Option ℕ)) → class < length plan.classes → (range : ℕ) (value : Option ℕ) → is_value_of plan range value ≡ true → is_value_of (plan_with (set plan.classes class (grown plan class fields values)) (plan.made + 1)) range value ≡ true
value_stays plan class fields values within range None was = refl
value_stays plan class fields values within range (Some id) was = live_stays plan class fields values within range id was

-- what fitted still fits
record_stays : (plan : PlanView) (class : ℕ) (fields : List ℤ) (values : List (Option ℕ)) → class < length plan.classes → (old new : ClassView) (raw : Raw) → new.fields ≡ old.fields → new.ranges ≡ old.ranges → IsRecordOf plan old raw → IsRecordOf (plan_with (set plan.classes class (grown plan class fields values)) (plan.made + 1)) new raw
record_stays plan class fields values within old new raw same_fields same_ranges fits =
    let after = plan_with (set plan.classes class (grown plan class fields values)) (plan.made + 1) in
    record {
      fields = fits.fields ∙ sym same_fields;
      numbers = fits.numbers;
      values = subst (λ (ranges : List ℕ). AllZip (λ range value. IsTrue (is_value_of after range value)) ranges raw.values) (sym same_ranges) (AllZip-weaker _ _ (value_stays plan class fields values within) old.ranges raw.values fits.values);
    }

range_stays : (plan : PlanView) (class : ℕ) (fields : List ℤ) (values : List (Option ℕ)) → class < length plan.classes → (range : ℕ) → IsValueClass plan range → IsValueClass (plan_with (set plan.classes class (grown plan class fields values)) (plan.made + 1)) range
range_stays plan class fields values within range is =
    record {
      there = (let count = length-set plan.classes class (grown plan class fields values) in let there = is.there in omega arith);
      plain = each_grown (λ n view. view.ranges ≡ (class_of plan n).ranges) plan class fields values within refl (λ n. refl) range ∙ is.plain;
    }

-- another class is still as the plan says
class_stays : (plan : PlanView) (class : ℕ) (fields : List ℤ) (values : List (Option ℕ)) → class < length plan.classes → (view : ClassView) → IsClassOf plan view → IsClassOf (plan_with (set plan.classes class (grown plan class fields values)) (plan.made + 1)) view
class_stays plan class fields values within view is =
    record {
      few_fields = is.few_fields;
      few_variables = is.few_variables;
      ranges = All-weaker (IsValueClass plan) _ (range_stays plan class fields values within) view.ranges is.ranges;
      nullables = is.nullables;
      increasing = is.increasing;
      ids = is.ids;
      greatest = (let h = is.greatest in omega arith);
      records = All-weaker (IsRecordOf plan view) _ (λ raw. record_stays plan class fields values within view view raw refl refl) view.facts is.records;
    }

-- the class with one more fact is as the plan says
class_grown : (plan : PlanView) (class : ℕ) (fields : List ℤ) (values : List (Option ℕ)) → class < length plan.classes → IsPlan plan → GoodFact plan class fields values → IsClassOf (plan_with (set plan.classes class (grown plan class fields values)) (plan.made + 1)) (grown plan class fields values)
class_grown plan class fields values within sound good =
    let old = class_of plan class in
    let new = grown plan class fields values in
    let id = next_id_of plan class in
    let raw : Raw = record { id = id; fields = fields; values = values; pinned = false } in
    let is = class_at plan class sound within in
    let ids : ids_in new.facts ≡ ids_in old.facts ++ id ∷ [] = map_push (λ (r : Raw). r.id) old.facts raw in
    let bounded : All (λ n. (1 ≤ n) × (n ≤ id)) (ids_in old.facts) = All-weaker (λ n. (1 ≤ n) × (n ≤ old.greatest)) (λ n. (1 ≤ n) × (n ≤ id)) (λ n h. (h.0, (let le = h.1 in omega arith))) (ids_in old.facts) is.ids in
    let fits : IsRecordOf plan old raw = record { fields = good.counted; numbers = good.numbers; values = good.held } in
    let after = plan_with (set plan.classes class new) (plan.made + 1) in
    record {
      few_fields = is.few_fields;
      few_variables = is.few_variables;
      ranges = All-weaker (IsValueClass plan) _ (range_stays plan class fields values within) old.ranges is.ranges;
      nullables = is.nullables;
      increasing = subst AreIncreasing (sym ids) (all_pairs_push (λ (one other : ℕ). one < other) (ids_in old.facts) id is.increasing (λ k d there. let h = (is.ids k d there).1 in omega arith));
      ids = subst (All (λ n. (1 ≤ n) × (n ≤ id))) (sym ids) (All-push (λ n. (1 ≤ n) × (n ≤ id)) (ids_in old.facts) id bounded (omega arith, omega arith));
      greatest = (let h = is.greatest in omega arith);
      records = All-push (IsRecordOf after new) old.facts raw (All-weaker (IsRecordOf plan old) _ (λ r. record_stays plan class fields values within old new r refl refl) old.facts is.records) (record_stays plan class fields values within old new raw refl refl fits);
    }

-- a plan with one more fact that has no fault is sound
pub grown_sound : (plan : PlanView) (class : ℕ) (fields : List ℤ) (values : List (Option ℕ)) → class < length plan.classes → IsPlan plan → GoodFact plan class fields values → IsPlan (plan_with (set plan.classes class (grown plan class fields values)) (plan.made + 1))
grown_sound plan class fields values within sound good =
    let new = grown plan class fields values in
    let after = plan_with (set plan.classes class new) (plan.made + 1) in
    let count = length-set plan.classes class new in
    let live = sum_by-set (λ (view : ClassView). length view.facts) plan.classes class new no_class within in
    let more = length_push (class_of plan class).facts (record { id = next_id_of plan class; fields = fields; values = values; pinned = false }) in
    record {
      few_classes = (let h = sound.few_classes in omega arith);
      classes = All-from_get_or (IsClassOf after) after.classes no_class (λ n there.
          each_grown (λ k view. k < length plan.classes → IsClassOf after view) plan class fields values within
          (λ in'. class_grown plan class fields values within sound good)
          (λ k in'. class_stays plan class fields values within (class_of plan k) (class_at plan k sound in')) n (omega arith));
      live = (let h = sound.live in omega arith);
      made = (let h = good.room in omega arith);
    }

-- how many variables are null with one more fact
pub grown_counts : (plan : PlanView) (class : ℕ) (fields : List ℤ) (values : List (Option ℕ)) → class < length plan.classes → unplaced_of (plan_with (set plan.classes class (grown plan class fields values)) (plan.made + 1)) ≡ unplaced_of plan + missing_in (class_of plan class).nullables values
grown_counts plan class fields values within =
    let new = grown plan class fields values in
    let whole = sum_by-set (λ (view : ClassView). nulls_in view.nullables view.facts) plan.classes class new no_class within in
    let part = sum_by_push (λ (raw : Raw). missing_in (class_of plan class).nullables raw.values) (class_of plan class).facts (record { id = next_id_of plan class; fields = fields; values = values; pinned = false }) in
    omega arith

-- a fact without a fault has few values
pub few_held : (plan : PlanView) (class : ℕ) (fields : List ℤ) (values : List (Option ℕ)) → class < length plan.classes → IsPlan plan → GoodFact plan class fields values → missing_in (class_of plan class).nullables values ≤ 2
few_held plan class fields values within sound good =
    let bound = missing_in-le (class_of plan class).nullables values in
    let is = class_at plan class sound within in
    let same = is.nullables in
    let few = is.few_variables in
    omega arith

-- what a fact added in the table of its class gives
pub record WasAdded (plan : PlanView) (class : ℕ) (fields : List ℤ) (values : List (Option ℕ)) (new : ClassView) : Type 0 where
  pub is : plan_with (set plan.classes class new) (plan.made + 1) ≡ with_fact plan class fields values
  pub sound : IsPlan (plan_with (set plan.classes class new) (plan.made + 1))
  pub counts : unplaced_of (plan_with (set plan.classes class new) (plan.made + 1)) ≡ unplaced_of plan + missing_in (class_of plan class).nullables values

pub was_added : (plan : PlanView) (class : ℕ) (fields : List ℤ) (values : List (Option ℕ)) (table new : ClassView) → class < length plan.classes → IsPlan plan → add_fault plan class fields values ≡ None → table ≡ get_or plan.classes class table → new ≡ record table { facts = table.facts ++ record { id = next_id_of plan class; fields = fields; values = values; pinned = false } ∷ []; greatest = next_id_of plan class } → WasAdded plan class fields values new
was_added plan class fields values table new within sound none read is =
    let raw : Raw = record { id = next_id_of plan class; fields = fields; values = values; pinned = false } in
    let same : table ≡ class_of plan class = read ∙ get_or_default plan.classes class table no_class within in
    let grew : new ≡ grown plan class fields values = is ∙ ap (λ (view : ClassView). let v : ClassView = record view { facts = view.facts ++ raw ∷ []; greatest = next_id_of plan class } in v) same in
    let after = ap (λ (view : ClassView). plan_with (set plan.classes class view) (plan.made + 1)) grew in
    record {
      is = after ∙ sym (with_fact_is plan class fields values);
      sound = subst IsPlan (sym after) (grown_sound plan class fields values within sound (good_fact plan class fields values none));
      counts = ap unplaced_of after ∙ grown_counts plan class fields values within;
    }
