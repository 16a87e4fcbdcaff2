-- An edit and then its inverse give the plan back.
use Rattle.std.proofs.Common.{◌≡◌, ◌==◌, ◌&&◌, ◌∙◌, ◌<◌, ℕ, zero, suc, Bool, true, false, cond, eqb, Option, Some, None, is_some, IsTrue, List, [], ◌∷◌, length, set, map, get_or, slice_get, refl, sym, ap, subst, inl, inr, arith, All}
use Rattle.std.specs.Option.{option_map_or, option_and_then}
use Rattle.std.specs.List.{AllZip}
use Rattle.std.specs.Ordering.{is_lt, nat_cmp, ordering_then}
use Rattle.std.specs.declared.cmp.Ordering.TheVariants.{Equal}
use Rattle.std.proofs.lemmas.Cmp.{tied_itself, nat_cmp_total}
use Rattle.std.proofs.lemmas.Bool.{cases_eq}
use Rattle.std.proofs.lemmas.List.{set-set, set_comm, set-get_or, get_or-set_same, get_or-set_other}
use Rattle.std.proofs.lemmas.List.Elements.{All-nil, All-cons, All-tail, All-weaker}
use Rattle.std.proofs.lemmas.Option.{get_or_from_slice_get, slice_get_within}
use Rattle.plan_facts.specs.declared.record.Raw.{Raw}
use Rattle.plan_facts.specs.Plan.{PlanView, ClassView, no_class, class_of, fact_of, record_with_id, ids_in, AreIncreasing, is_value_of, IsPlan, IsRecordOf}
use Rattle.plan_facts.specs.PlanChanges.{with_class, with_record, with_value}
use Rattle.plan_facts.proofs.Places.{same_eqb, increasing_head, increasing_tail, changed_none, found_holds}
use Rattle.plan_facts.proofs.Sound.{class_at}
use Rattle.plan_moves.specs.declared.edit.Set.{Set}
use Rattle.plan_moves.specs.Edits.{set_order, AreInOrder, IsBefore, is_legal_set, is_legal, applied, set_back, inverse_of, TakesBack}
use Rattle.plan_moves.proofs.Order.{in_order_head, in_order_tail}
use Rattle.plan_moves.proofs.Shape.{set_var, changed_if, changed_id, both_left, both_right, legal_var, legal_range, legal_class, same_legal, applied_shape, with_value_shape}

-- two sets have different variables
abbrev pub Apart : Set → Set → Type 0
Apart one other = one.class ≡ other.class → one.id ≡ other.id → one.var ≡ other.var → ⊥

tied : (m n : ℕ) → m ≡ n → nat_cmp m n ≡ Equal
tied m n e = ap (λ k. nat_cmp m k) (sym e) ∙ tied_itself nat_cmp_total m

-- one that comes before another has another variable
pub before_apart : (one other : Set) → IsBefore one other → Apart one other
unfolding set_order
before_apart one other before class id var =
    let e : set_order one other ≡ Equal = ap (λ o. ordering_then o (ordering_then (nat_cmp one.id other.id) (nat_cmp one.var other.var))) (tied one.class other.class class) ∙ ap (λ o. ordering_then o (nat_cmp one.var other.var)) (tied one.id other.id id) ∙ tied one.var other.var var in
    let wrong : true ≡ false = sym before ∙ ap is_lt e in
    cc

-- a record with its values put anew
abbrev pub set_values : Raw → List (Option ℕ) → Raw
set_values raw values = record raw { values = values }

-- setting a variable and then what it held gives its record back
raw_back : (raw : Raw) (var : ℕ) (value held : Option ℕ) → slice_get raw.values var ≡ Some held → set_var var held (set_var var value raw) ≡ raw
raw_back raw var value held at =
    let e : set (set raw.values var value) var held ≡ raw.values = set-set raw.values var value held ∙ ap (set raw.values var) (sym (get_or_from_slice_get raw.values var held held at)) ∙ set-get_or raw.values var held in
    ap (set_values raw) e

-- and its class's records
facts_back : (facts : List Raw) (id var : ℕ) (value held : Option ℕ) (raw : Raw) → AreIncreasing (ids_in facts) → record_with_id id facts ≡ Some raw → slice_get raw.values var ≡ Some held → map (changed_if id (set_var var held)) (map (changed_if id (set_var var value)) facts) ≡ facts
facts_back [] id var value held raw up found at = refl
facts_back (first ∷ facts) id var value held raw up found at =
    let there = changed_if id (set_var var value) in
    let back = changed_if id (set_var var held) in
    elim (eqb first.id id) as (λ b. eqb first.id id ≡ b → cond b (Some first) (record_with_id id facts) ≡ Some raw → map back (map there (first ∷ facts)) ≡ first ∷ facts) [
      | true ↦ λ is found.
          let same : first ≡ raw = cc in
          let head : back (there first) ≡ first = ap (λ b. back (cond b (set_var var value first) first)) is ∙ ap (λ b. cond b (set_var var held (set_var var value first)) (set_var var value first)) is ∙ raw_back first var value held (ap (λ (r : Raw). slice_get r.values var) same ∙ at) in
          let above = λ (k d : ℕ) (lt : k < length (ids_in facts)). (let h = increasing_head first.id (ids_in facts) up k d lt in let e = same_eqb first.id id is in let less : id < get_or (ids_in facts) k d = omega arith in less) in
          let rest : map back (map there facts) ≡ facts = ap (map back) (changed_none facts id (set_var var value) above) ∙ changed_none facts id (set_var var held) above in
          λ i. head i ∷ rest i
      | false ↦ λ is found.
          let head : back (there first) ≡ first = ap (λ b. back (cond b (set_var var value first) first)) is ∙ ap (λ b. cond b (set_var var held first) first) is in
          let rest = facts_back facts id var value held raw (increasing_tail first.id (ids_in facts) up) found at in
          λ i. head i ∷ rest i
    ] refl found

-- a class with its records put anew
abbrev pub with_facts : ClassView → List Raw → ClassView
with_facts view facts = record view { facts = facts }

-- a plan with its classes put anew
abbrev pub with_classes : PlanView → List ClassView → PlanView
with_classes plan classes = record plan { classes = classes }

-- one class is put after the other
put_twice : (plan : PlanView) (class : ℕ) (one two : ClassView) → with_class (with_class plan class one) class two ≡ with_class plan class two
put_twice plan class one two = ap (with_classes plan) (set-set plan.classes class one two)

class_back : (plan : PlanView) (class id var : ℕ) (value held : Option ℕ) (raw : Raw) → class < length plan.classes → IsPlan plan → fact_of plan class id ≡ Some raw → slice_get raw.values var ≡ Some held → with_value (with_value plan class id var value) class id var held ≡ plan
unfolding with_value
class_back plan class id var value held raw within sound found at =
    let old = class_of plan class in
    let one = with_record old id (set_var var value) in
    ap (λ view. with_class (with_class plan class one) class (with_record view id (set_var var held))) (get_or-set_same plan.classes class one no_class within)
    ∙ put_twice plan class one (with_record one id (set_var var held))
    ∙ ap (λ facts. with_class plan class (with_facts old facts)) (facts_back old.facts id var value held raw (class_at plan class sound within).increasing found at)
    ∙ ap (with_classes plan) (set-get_or plan.classes class no_class)

-- what a legal set's variable holds, with its record
pub record Holds (plan : PlanView) (set : Set) : Type 0 where
  pub raw : Raw
  pub held : Option ℕ
  pub found : fact_of plan set.class set.id ≡ Some raw
  pub at : slice_get raw.values set.var ≡ Some held
  pub back : (set_back plan set).value ≡ held

holds_at : (plan : PlanView) (set : Set) (found : Option Raw) → fact_of plan set.class set.id ≡ found → is_some (option_and_then (λ raw. slice_get raw.values set.var) found) ≡ true → Holds plan set
holds_at plan set None is some = absurd (let e : false ≡ true = some in cc)
holds_at plan set (Some raw) is some =
    let wide : (o : Option (Option ℕ)) → slice_get raw.values set.var ≡ o → is_some o ≡ true → Holds plan set = λ o. elim o as (λ o. slice_get raw.values set.var ≡ o → is_some o ≡ true → Holds plan set) [
      | None ↦ λ at some. absurd (let e : false ≡ true = some in cc)
      | Some held ↦ λ at some. record { raw = raw; held = held; found = is; at = at; back = ap (λ (o : Option Raw). option_map_or (λ (h : Option ℕ). h) (option_and_then (λ (r : Raw). slice_get r.values set.var) o) None) is ∙ ap (λ (o : Option (Option ℕ)). option_map_or (λ (h : Option ℕ). h) o None) at }
    ] in
    wide (slice_get raw.values set.var) refl some

pub holds : (plan : PlanView) (set : Set) → is_legal_set plan set ≡ true → Holds plan set
holds plan set legal = holds_at plan set (fact_of plan set.class set.id) refl (legal_var plan set legal)

-- a set and then the one that takes it back give the plan back
pub set_restored : (plan : PlanView) (set : Set) → IsPlan plan → is_legal_set plan set ≡ true → with_value (with_value plan set.class set.id set.var set.value) set.class set.id set.var (set_back plan set).value ≡ plan
set_restored plan set sound legal =
    let h = holds plan set legal in
    ap (with_value (with_value plan set.class set.id set.var set.value) set.class set.id set.var) h.back
    ∙ class_back plan set.class set.id set.var set.value h.held h.raw (legal_class plan set legal) sound h.found h.at

-- a plan with the variable of a set set
abbrev pub put_set : PlanView → Set → PlanView
put_set plan set = with_value plan set.class set.id set.var set.value

swap_cases : (raw : Raw) (var other_var : ℕ) (value other : Option ℕ) (a b : Bool) → (a ≡ true → b ≡ true → var ≡ other_var → ⊥) → cond b (set_var other_var other (cond a (set_var var value raw) raw)) (cond a (set_var var value raw) raw) ≡ cond a (set_var var value (cond b (set_var other_var other raw) raw)) (cond b (set_var other_var other raw) raw)
swap_cases raw var other_var value other true true apart = ap (set_values raw) (set_comm raw.values var other_var value other (apart refl refl))
swap_cases raw var other_var value other true false apart = refl
swap_cases raw var other_var value other false true apart = refl
swap_cases raw var other_var value other false false apart = refl

-- two variables of a record are set in either order
raw_swap : (raw : Raw) (id var other_id other_var : ℕ) (value other : Option ℕ) → (id ≡ other_id → var ≡ other_var → ⊥) → changed_if other_id (set_var other_var other) (changed_if id (set_var var value) raw) ≡ changed_if id (set_var var value) (changed_if other_id (set_var other_var other) raw)
raw_swap raw id var other_id other_var value other apart =
    let first = set_var var value in
    let second = set_var other_var other in
    ap (λ (n : ℕ). cond (n == other_id) (second (changed_if id first raw)) (changed_if id first raw)) (changed_id raw id first (λ r. refl))
    ∙ swap_cases raw var other_var value other (eqb raw.id id) (eqb raw.id other_id) (λ a b. apart (sym (same_eqb raw.id id a) ∙ same_eqb raw.id other_id b))
    ∙ sym (ap (λ (n : ℕ). cond (n == id) (first (changed_if other_id second raw)) (changed_if other_id second raw)) (changed_id raw other_id second (λ r. refl)))

facts_swap : (facts : List Raw) (id var other_id other_var : ℕ) (value other : Option ℕ) → (id ≡ other_id → var ≡ other_var → ⊥) → map (changed_if other_id (set_var other_var other)) (map (changed_if id (set_var var value)) facts) ≡ map (changed_if id (set_var var value)) (map (changed_if other_id (set_var other_var other)) facts)
facts_swap [] id var other_id other_var value other apart = refl
facts_swap (raw ∷ facts) id var other_id other_var value other apart = λ i. raw_swap raw id var other_id other_var value other apart i ∷ facts_swap facts id var other_id other_var value other apart i

-- two variables of one class set, one after the other
in_one_class : (plan : PlanView) (class id var other_id other_var : ℕ) (value other : Option ℕ) → class < length plan.classes → with_value (with_value plan class id var value) class other_id other_var other ≡ with_class plan class (with_facts (class_of plan class) (map (changed_if other_id (set_var other_var other)) (map (changed_if id (set_var var value)) (class_of plan class).facts)))
unfolding with_value
in_one_class plan class id var other_id other_var value other within =
    let one = with_record (class_of plan class) id (set_var var value) in
    ap (λ view. with_class (with_class plan class one) class (with_record view other_id (set_var other_var other))) (get_or-set_same plan.classes class one no_class within)
    ∙ put_twice plan class one (with_record one other_id (set_var other_var other))

-- two variables of different classes set, one after the other
in_two_classes : (plan : PlanView) (class id var other_class other_id other_var : ℕ) (value other : Option ℕ) → (other_class ≡ class → ⊥) → with_value (with_value plan class id var value) other_class other_id other_var other ≡ with_classes plan (set (set plan.classes class (with_record (class_of plan class) id (set_var var value))) other_class (with_record (class_of plan other_class) other_id (set_var other_var other)))
unfolding with_value
in_two_classes plan class id var other_class other_id other_var value other apart =
    let one = with_record (class_of plan class) id (set_var var value) in
    ap (λ view. with_class (with_class plan class one) other_class (with_record view other_id (set_var other_var other))) (get_or-set_other plan.classes class other_class one no_class apart)

-- different variables are set in either order
pub values_swap : (plan : PlanView) (one other : Set) → one.class < length plan.classes → Apart one other → put_set (put_set plan one) other ≡ put_set (put_set plan other) one
values_swap plan one other within apart =
    elim (cases_eq one.class other.class) [
      | inl same ↦
          subst (λ (n : ℕ). with_value (put_set plan one) n other.id other.var other.value ≡ put_set (with_value plan n other.id other.var other.value) one) same
          (in_one_class plan one.class one.id one.var other.id other.var one.value other.value within
          ∙ ap (λ facts. with_class plan one.class (with_facts (class_of plan one.class) facts)) (facts_swap (class_of plan one.class).facts one.id one.var other.id other.var one.value other.value (apart same))
          ∙ sym (in_one_class plan one.class other.id other.var one.id one.var other.value one.value within))
      | inr differ ↦
          in_two_classes plan one.class one.id one.var other.class other.id other.var one.value other.value (λ e. differ (sym e))
          ∙ ap (with_classes plan) (set_comm plan.classes one.class other.class _ _ differ)
          ∙ sym (in_two_classes plan other.class other.id other.var one.class one.id one.var other.value one.value differ)
    ]

-- a set after an edit is as one before it, where the edit doesn't set its variable
applied_swap : (plan : PlanView) (n : ℕ) (one : Set) (sets : List Set) → length plan.classes ≡ n → one.class < n → All (λ s. s.class < n) sets → All (Apart one) sets → put_set (applied plan sets) one ≡ applied (put_set plan one) sets
unfolding applied
applied_swap plan n one [] count within all apart = refl
applied_swap plan n one (set ∷ sets) count within all apart =
    let next = put_set plan set in
    let first : set.class < length plan.classes = subst (λ m. set.class < m) (sym count) (all 0 set (omega arith)) in
    let away = apart 0 set (omega arith) in
    applied_swap next n one sets ((with_value_shape plan set.class set.id set.var set.value first).count ∙ count) within (All-tail (λ s. s.class < n) set sets all) (All-tail (Apart one) set sets apart)
    ∙ ap (λ p. applied p sets) (values_swap plan set one first (λ c i v. away (sym c) (sym i) (sym v)))

legal_classes : (plan : PlanView) (sets : List Set) → is_legal plan sets ≡ true → All (λ s. s.class < length plan.classes) sets
legal_classes plan [] legal = All-nil (λ s. s.class < length plan.classes)
legal_classes plan (set ∷ sets) legal = All-cons (λ s. s.class < length plan.classes) set sets (legal_class plan set (both_left _ _ legal)) (legal_classes plan sets (both_right _ _ legal))

-- an edit and then its inverse give the plan as it was
pub restored : (plan : PlanView) (sets : List Set) → IsPlan plan → AreInOrder sets → is_legal plan sets ≡ true → applied (applied plan sets) (inverse_of plan sets) ≡ plan
unfolding applied inverse_of
restored plan [] sound order legal = refl
restored plan (set ∷ sets) sound order legal =
    let good = both_left _ _ legal in
    let next = put_set plan set in
    ap (λ p. applied p (inverse_of plan sets))
    (applied_swap next (length plan.classes) (set_back plan set) sets ((with_value_shape plan set.class set.id set.var set.value (legal_class plan set good)).count) (legal_class plan set good) (legal_classes plan sets (both_right _ _ legal)) (All-weaker (IsBefore set) (Apart (set_back plan set)) (λ later h. before_apart set later h) sets (in_order_head set sets order))
    ∙ ap (λ p. applied p sets) (set_restored plan set sound good))
    ∙ restored plan sets sound (in_order_tail set sets order) (both_right _ _ legal)

-- what holds of two lists at each place
zip_at : {A B : Type 0} (R : A → B → Type 0) (xs : List A) (ys : List B) (i : ℕ) (d : A) (e : B) → AllZip R xs ys → i < length xs → R (get_or xs i d) (get_or ys i e)
zip_at R [] ys i d e all within = absurd (omega arith)
zip_at R (x ∷ xs) [] i d e all within = absurd all
zip_at R (x ∷ xs) (y ∷ ys) zero d e all within = all.0
zip_at R (x ∷ xs) (y ∷ ys) (suc i) d e all within = zip_at R xs ys i d e all.1 (omega arith)

held_in_range : (plan : PlanView) (ranges : List ℕ) (values : List (Option ℕ)) (var : ℕ) (value held : Option ℕ) (found : Option ℕ) → AllZip (λ range value. IsTrue (is_value_of plan range value)) ranges values → slice_get values var ≡ Some held → slice_get ranges var ≡ found → option_map_or (λ range. is_value_of plan range value) found false ≡ true → option_map_or (λ range. is_value_of plan range held) found false ≡ true
held_in_range plan ranges values var value held None fits at is legal = legal
held_in_range plan ranges values var value held (Some range) fits at is legal =
    ap (λ n. is_value_of plan n held) (sym (get_or_from_slice_get ranges var range 0 is)) ∙ ap (is_value_of plan (get_or ranges var 0)) (sym (get_or_from_slice_get values var held None at))
    ∙ zip_at (λ range value. IsTrue (is_value_of plan range value)) ranges values var 0 None fits (slice_get_within ranges var range is)

both_true : (a b : Bool) → a ≡ true → b ≡ true → (a && b) ≡ true
both_true a b h k = ap (λ x. x && b) h ∙ k

-- the set that takes a legal set back is legal
back_legal : (plan : PlanView) (set : Set) → IsPlan plan → is_legal_set plan set ≡ true → is_legal_set plan (set_back plan set) ≡ true
back_legal plan set sound legal =
    let h = holds plan set legal in
    let ranges = (class_of plan set.class).ranges in
    let fits = found_holds (IsRecordOf plan (class_of plan set.class)) (class_of plan set.class).facts set.id h.raw (class_at plan set.class sound (legal_class plan set legal)).records h.found in
    both_true _ _ (both_left _ _ legal)
    (ap (λ value. option_map_or (λ range. is_value_of plan range value) (slice_get ranges set.var) false) h.back
    ∙ held_in_range plan ranges h.raw.values set.var set.value h.held (slice_get ranges set.var) fits.values h.at refl (legal_range plan set legal))

inverse_legal : (plan : PlanView) (sets : List Set) → IsPlan plan → is_legal plan sets ≡ true → is_legal plan (inverse_of plan sets) ≡ true
unfolding inverse_of
inverse_legal plan [] sound legal = refl
inverse_legal plan (set ∷ sets) sound legal = both_true _ _ (back_legal plan set sound (both_left _ _ legal)) (inverse_legal plan sets sound (both_right _ _ legal))

-- the inverse takes a legal edit back
pub takes_back : (plan : PlanView) (sets : List Set) → (0 < length sets → IsPlan plan) → AreInOrder sets → is_legal plan sets ≡ true → TakesBack plan sets (inverse_of plan sets)
unfolding applied inverse_of
takes_back plan [] sound order legal = record { legal = refl; restored = refl }
takes_back plan (set ∷ rest) sound order legal =
    let sets : List Set = set ∷ rest in
    let is : IsPlan plan = sound (omega arith) in
    record {
      legal = same_legal plan (applied plan sets) (applied_shape plan sets legal) (inverse_of plan sets) ∙ inverse_legal plan sets is legal;
      restored = restored plan sets is order legal;
    }
