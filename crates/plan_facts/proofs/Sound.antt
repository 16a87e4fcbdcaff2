-- What a plan's invariant gives, and that a change which keeps the ids keeps it.
use Rattle.plan_facts.specs.Limits.{fact_limit}
use Rattle.std.proofs.Common.{◌≡◌, ◌==◌, ◌<◌, ◌≤◌, ◌+◌, ◌*◌, ◌∙◌, ℕ, zero, suc, true, false, cond, ◌||◌, Bool, Option, Some, None, is_some, IsTrue, zip, take, List, [], ◌∷◌, ◌++◌, length, set, get_or, eqb, refl, sym, ap, subst, arith, All, sum_by, count_by}
use Rattle.std.specs.List.{AllZip, list_any}
use Rattle.std.proofs.lemmas.List.{length-map, get_or_past, take_more}
use Rattle.std.proofs.lemmas.List.Elements.{All-from_get_or, All-get_or, All-weaker}
use Rattle.std.proofs.lemmas.Slice.Zip.{AllZip-long, length-zip, get_or-zip}
use Rattle.std.proofs.lemmas.List.Sums.{sum_by-cons, sum_by_push, sum_by-le, count_by-le-length, get_or-le-sum_by}
use Rattle.plan_facts.specs.declared.record.Raw.{Raw}
use Rattle.plan_facts.specs.Plan.{PlanView, ClassView, no_class, class_of, record_with_id, is_live, ids_in, ids_of, is_missing, missing_in, nulls_in, unplaced_of, is_value_of, AreIncreasing, IsPlan, IsClassOf, IsValueClass, IsRecordOf}
use Rattle.plan_facts.proofs.Places.{found_holds}

-- a class of the plan is as the plan says
pub class_at : (plan : PlanView) (class : ℕ) → IsPlan plan → class < length plan.classes → IsClassOf plan (class_of plan class)
class_at plan class sound within = All-get_or (IsClassOf plan) plan.classes class no_class within sound.classes

-- past the last class there is nothing
pub class_past : (plan : PlanView) (class : ℕ) → length plan.classes ≤ class → class_of plan class ≡ no_class
class_past plan class past = get_or_past plan.classes class no_class past

-- no class has more records than were made
pub few_facts : (plan : PlanView) (class : ℕ) → IsPlan plan → class < length plan.classes → length (class_of plan class).facts ≤ fact_limit
few_facts plan class sound within =
    let part = get_or-le-sum_by (λ (view : ClassView). length view.facts) plan.classes class no_class within in
    let live = sound.live in
    let made = sound.made in
    omega arith

-- no more values are missing than a class has variables
pub missing_in-le : (nullables : List Bool) (values : List (Option ℕ)) → missing_in nullables values ≤ length nullables
missing_in-le nullables values =
    let bound = count_by-le-length is_missing (zip nullables values) in
    let long = length-zip nullables values in
    omega arith

-- 1 where the value of a variable that is nullable or not is missing, else 0
abbrev pub missing : Bool × Option ℕ → ℕ
missing pair = cond (is_missing pair) 1 0

pub missing_le : (pair : Bool × Option ℕ) → missing pair ≤ 1
missing_le pair = elim (is_missing pair) as (λ b. cond b 1 0 ≤ 1) [ true ↦ omega arith | false ↦ omega arith ]

-- one more value
pub missing_more : (nullables : List Bool) (values : List (Option ℕ)) (var : ℕ) → var < length nullables → var < length values → count_by is_missing (take (var + 1) (zip nullables values)) ≡ count_by is_missing (take var (zip nullables values)) + missing (get_or nullables var false, get_or values var None)
missing_more nullables values var in_nullables in_values =
    let long = length-zip nullables values in
    let pair = get_or-zip nullables values var (false, None) in_nullables in_values in
    let pairs = zip nullables values in
    let next = get_or pairs var (false, None) in
    let more : count_by is_missing (take var pairs ++ next ∷ []) ≡ count_by is_missing (take var pairs) + missing next = sum_by_push missing (take var pairs) next in
    let now : count_by is_missing (take var pairs ++ next ∷ []) ≡ count_by is_missing (take (var + 1) pairs) = sym (ap (count_by is_missing) (take_more pairs var (false, None) (omega arith))) in
    let e : missing next ≡ missing (get_or nullables var false, get_or values var None) = ap missing pair in
    omega arith

few_nulls : (plan : PlanView) (view : ClassView) → IsClassOf plan view → nulls_in view.nullables view.facts ≤ length view.facts * 2
few_nulls plan view is =
    sum_by-le (λ (raw : Raw). missing_in view.nullables raw.values) 2 view.facts
    (All-weaker (IsRecordOf plan view) (λ raw. missing_in view.nullables raw.values ≤ 2) (λ raw fits.
    let bound = missing_in-le view.nullables raw.values in
    let same = is.nullables in
    let few = is.few_variables in
    omega arith) view.facts is.records)

-- few enough variables are null for their count to fit
pub few_unplaced : (plan : PlanView) → IsPlan plan → unplaced_of plan ≤ 3200000
few_unplaced plan sound =
    let most : All (λ (view : ClassView). nulls_in view.nullables view.facts ≤ 200000) plan.classes = All-from_get_or (λ (view : ClassView). nulls_in view.nullables view.facts ≤ 200000) plan.classes no_class (λ class within.
    let nulls = few_nulls plan (class_of plan class) (class_at plan class sound within) in
    let facts = few_facts plan class sound within in
    omega arith) in
    let all = sum_by-le (λ (view : ClassView). nulls_in view.nullables view.facts) 200000 plan.classes most in
    let few = sound.few_classes in
    omega arith

-- whether an id is live is seen from the ids
pub live_by_ids : (facts : List Raw) (id : ℕ) → is_some (record_with_id id facts) ≡ list_any (λ other. other == id) (ids_in facts)
live_by_ids [] id = refl
live_by_ids (raw ∷ facts) id = elim (eqb raw.id id) as (λ b. is_some (cond b (Some raw) (record_with_id id facts)) ≡ b || list_any (λ other. other == id) (ids_in facts)) [ true ↦ refl | false ↦ live_by_ids facts id ]

-- the two plans have the same classes with the same ids
pub record KeepsIds (old new : PlanView) : Type 0 where
  pub made : new.made ≡ old.made
  pub count : length new.classes ≡ length old.classes
  pub fields : (class : ℕ) → (class_of new class).fields ≡ (class_of old class).fields
  pub ranges : (class : ℕ) → (class_of new class).ranges ≡ (class_of old class).ranges
  pub nullables : (class : ℕ) → (class_of new class).nullables ≡ (class_of old class).nullables
  pub greatest : (class : ℕ) → (class_of new class).greatest ≡ (class_of old class).greatest
  pub ids : (class : ℕ) → ids_of new class ≡ ids_of old class

pub kept_live : (old new : PlanView) → KeepsIds old new → (class id : ℕ) → is_live new class id ≡ is_live old class id
kept_live old new keeps class id =
    live_by_ids (class_of new class).facts id ∙ ap (list_any (λ other. other == id)) (keeps.ids class) ∙ sym (live_by_ids (class_of old class).facts id)

pub kept_value : (old new : PlanView) → KeepsIds old new → (range : ℕ) (value : Option ℕ) → is_value_of new range value ≡ is_value_of old range value
kept_value old new keeps range None = refl
kept_value old new keeps range (Some id) = kept_live old new keeps range id

-- a relation place by place that follows from another
pub AllZip-weaker : {A B : Type 0} (R S : A → B → Type 0) → ((x : A) (y : B) → R x y → S x y) → (xs : List A) (ys : List B) → AllZip R xs ys → AllZip S xs ys
AllZip-weaker R S step [] [] all = all
AllZip-weaker R S step [] (y ∷ ys) all = absurd all
AllZip-weaker R S step (x ∷ xs) [] all = absurd all
AllZip-weaker R S step (x ∷ xs) (y ∷ ys) all = (step x y all.0, AllZip-weaker R S step xs ys all.1)

-- one place is changed to what is so as well
pub AllZip-set : {A B : Type 0} (R : A → B → Type 0) (xs : List A) (ys : List B) (place : ℕ) (d : A) (y : B) → AllZip R xs ys → R (get_or xs place d) y → AllZip R xs (set ys place y)
AllZip-set R [] [] place d y all here = all
AllZip-set R [] (z ∷ ys) place d y all here = absurd all
AllZip-set R (x ∷ xs) [] place d y all here = absurd all
AllZip-set R (x ∷ xs) (z ∷ ys) zero d y all here = (here, all.1)
AllZip-set R (x ∷ xs) (z ∷ ys) (suc place) d y all here = (all.0, AllZip-set R xs ys place d y all.1 here)

-- two sums with the same terms
pub sum_by_same : {X : Type 0} (f : X → ℕ) (d : X) (xs ys : List X) → length xs ≡ length ys → ((place : ℕ) → f (get_or xs place d) ≡ f (get_or ys place d)) → sum_by f xs ≡ sum_by f ys
sum_by_same f d [] [] same terms = refl
sum_by_same f d [] (y ∷ ys) same terms = absurd (omega arith)
sum_by_same f d (x ∷ xs) [] same terms = absurd (omega arith)
sum_by_same f d (x ∷ xs) (y ∷ ys) same terms =
    let first = terms 0 in
    let rest = sum_by_same f d xs ys (omega arith) (λ place. terms (suc place)) in
    omega (arith, sum_by-cons f x xs, sum_by-cons f y ys)

pub kept_record : (old new : PlanView) → KeepsIds old new → (class : ℕ) (raw : Raw) → IsRecordOf old (class_of old class) raw → IsRecordOf new (class_of new class) raw
kept_record old new keeps class raw fits =
    record {
      fields = fits.fields ∙ sym (keeps.fields class);
      numbers = fits.numbers;
      values = subst (λ (ranges : List ℕ). AllZip (λ range value. IsTrue (is_value_of new range value)) ranges raw.values) (sym (keeps.ranges class)) (AllZip-weaker _ _ (λ range value is. kept_value old new keeps range value ∙ is) (class_of old class).ranges raw.values fits.values);
    }

kept_range : (old new : PlanView) → KeepsIds old new → (range : ℕ) → IsValueClass old range → IsValueClass new range
kept_range old new keeps range is =
    record { there = (let count = keeps.count in let there = is.there in omega arith); plain = keeps.ranges range ∙ is.plain }

kept_class : (old new : PlanView) → KeepsIds old new → (class : ℕ) → IsClassOf old (class_of old class) → All (IsRecordOf old (class_of old class)) (class_of new class).facts → IsClassOf new (class_of new class)
kept_class old new keeps class is fit =
    record {
      few_fields = (let e = keeps.fields class in let h = is.few_fields in omega arith);
      few_variables = (let e = ap (λ (ranges : List ℕ). length ranges) (keeps.ranges class) in let h = is.few_variables in omega arith);
      ranges = subst (λ (ranges : List ℕ). All (IsValueClass new) ranges) (sym (keeps.ranges class)) (All-weaker (IsValueClass old) (IsValueClass new) (kept_range old new keeps) _ is.ranges);
      nullables = ap (λ (nullables : List Bool). length nullables) (keeps.nullables class) ∙ is.nullables ∙ sym (ap (λ (ranges : List ℕ). length ranges) (keeps.ranges class));
      increasing = subst (λ (ids : List ℕ). AreIncreasing ids) (sym (keeps.ids class)) is.increasing;
      ids = subst (λ (ids : List ℕ). All (λ id. (1 ≤ id) × (id ≤ (class_of new class).greatest)) ids) (sym (keeps.ids class)) (subst (λ (most : ℕ). All (λ id. (1 ≤ id) × (id ≤ most)) (ids_of old class)) (sym (keeps.greatest class)) is.ids);
      greatest = (let e = keeps.greatest class in let m = keeps.made in let h = is.greatest in omega arith);
      records = All-weaker (IsRecordOf old (class_of old class)) (IsRecordOf new (class_of new class)) (kept_record old new keeps class) _ fit;
    }

-- a change that keeps the ids, and whose records fit, keeps a plan sound
pub kept_sound : (old new : PlanView) → KeepsIds old new → IsPlan old → ((class : ℕ) → class < length old.classes → All (IsRecordOf old (class_of old class)) (class_of new class).facts) → IsPlan new
kept_sound old new keeps sound fit =
    let facts : (class : ℕ) → length (class_of new class).facts ≡ length (class_of old class).facts = λ class. sym (length-map (class_of new class).facts (λ (raw : Raw). raw.id)) ∙ ap (λ (ids : List ℕ). length ids) (keeps.ids class) ∙ length-map (class_of old class).facts (λ (raw : Raw). raw.id) in
    let count = keeps.count in
    let made = keeps.made in
    let sum = sum_by_same (λ (view : ClassView). length view.facts) no_class new.classes old.classes count facts in
    record {
      few_classes = (let h = sound.few_classes in omega arith);
      classes = All-from_get_or (IsClassOf new) new.classes no_class (λ class within. let there : class < length old.classes = omega arith in kept_class old new keeps class (class_at old class sound there) (fit class there));
      live = (let h = sound.live in omega arith);
      made = (let h = sound.made in omega arith);
    }

-- a live record has a value for each variable
pub record_fits : (plan : PlanView) (view : ClassView) (id : ℕ) (raw : Raw) → IsClassOf plan view → record_with_id id view.facts ≡ Some raw → length raw.values ≡ length view.ranges
record_fits plan view id raw is found = AllZip-long _ _ _ (found_holds (IsRecordOf plan view) view.facts id raw is.records found).values
