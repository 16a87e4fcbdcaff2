-- Setting variables adds and takes away no variable and no fact, so that what was legal stays legal.
use Rattle.std.proofs.Common.{◌≡◌, ◌==◌, ◌&&◌, ◌∙◌, ◌<◌, ◌+◌, ℕ, zero, suc, Bool, true, false, cond, not, eqb, Option, Some, None, is_some, IsSomeAnd, List, [], ◌∷◌, length, set, map, take, get_or, slice_get, refl, sym, ap, arith}
use Rattle.std.specs.Option.{option_map, option_map_or, option_and_then}
use Rattle.std.specs.List.{list_all, fold}
use Rattle.std.proofs.lemmas.Option.{get_or_from_slice_get}
use Rattle.std.proofs.lemmas.List.{length-set}
use Rattle.plan_facts.specs.declared.record.Raw.{Raw}
use Rattle.plan_facts.specs.Plan.{PlanView, class_of, fact_of, record_with_id, is_live, is_pinned, is_value_of, range_of}
use Rattle.plan_facts.specs.PlanChanges.{with_record, with_value}
use Rattle.plan_facts.proofs.Changed.{each_class, class_there}
use Rattle.plan_moves.specs.declared.edit.Set.{Set}
use Rattle.plan_moves.specs.Edits.{held_by, is_movable_var, is_in_range, is_legal_set, is_legal, applied}

-- a record with one variable set
abbrev pub set_var : ℕ → Option ℕ → Raw → Raw
set_var var value raw = record raw { values = set raw.values var value }

-- the record with an id changed, and each other as it was
abbrev pub changed_if : ℕ → (Raw → Raw) → Raw → Raw
changed_if id change raw = cond (raw.id == id) (change raw) raw

pub changed_id : (raw : Raw) (id : ℕ) (change : Raw → Raw) → ((r : Raw) → (change r).id ≡ r.id) → (changed_if id change raw).id ≡ raw.id
changed_id raw id change same = elim (eqb raw.id id) as (λ b. (cond b (change raw) raw).id ≡ raw.id) [ true ↦ same raw | false ↦ refl ]

-- what a look-up finds after one record was changed
found_changed : (facts : List Raw) (id other : ℕ) (change : Raw → Raw) → ((r : Raw) → (change r).id ≡ r.id) → record_with_id other (map (changed_if id change) facts) ≡ option_map (changed_if id change) (record_with_id other facts)
found_changed [] id other change same = refl
found_changed (raw ∷ facts) id other change same =
    ap (λ (n : ℕ). cond (n == other) (Some (changed_if id change raw)) (record_with_id other (map (changed_if id change) facts))) (changed_id raw id change same)
    ∙ elim (eqb raw.id other) as (λ b. cond b (Some (changed_if id change raw)) (record_with_id other (map (changed_if id change) facts)) ≡ option_map (changed_if id change) (cond b (Some raw) (record_with_id other facts))) [ true ↦ refl | false ↦ found_changed facts id other change same ]

is_some_set : (values : List (Option ℕ)) (var other : ℕ) (value : Option ℕ) → is_some (slice_get (set values var value) other) ≡ is_some (slice_get values other)
is_some_set [] var other value = refl
is_some_set (x ∷ xs) zero zero value = refl
is_some_set (x ∷ xs) zero (suc other) value = refl
is_some_set (x ∷ xs) (suc var) zero value = refl
is_some_set (x ∷ xs) (suc var) (suc other) value = is_some_set xs var other value

held_changed : (found : Option Raw) (id var other : ℕ) (value : Option ℕ) → is_some (option_and_then (λ raw. slice_get raw.values other) (option_map (changed_if id (set_var var value)) found)) ≡ is_some (option_and_then (λ raw. slice_get raw.values other) found)
held_changed None id var other value = refl
held_changed (Some raw) id var other value = elim (eqb raw.id id) as (λ b. is_some (slice_get (cond b (set_var var value raw) raw).values other) ≡ is_some (slice_get raw.values other)) [ true ↦ is_some_set raw.values var other value | false ↦ refl ]

live_changed : (found : Option Raw) (change : Raw → Raw) → is_some (option_map change found) ≡ is_some found
live_changed None change = refl
live_changed (Some raw) change = refl

pinned_changed : (found : Option Raw) (change : Raw → Raw) → ((r : Raw) → (change r).pinned ≡ r.pinned) → option_map_or (λ (raw : Raw). raw.pinned) (option_map change found) false ≡ option_map_or (λ (raw : Raw). raw.pinned) found false
pinned_changed None change same = refl
pinned_changed (Some raw) change same = same raw

changed_pinned : (raw : Raw) (id var : ℕ) (value : Option ℕ) → (changed_if id (set_var var value) raw).pinned ≡ raw.pinned
changed_pinned raw id var value = elim (eqb raw.id id) as (λ b. (cond b (set_var var value raw) raw).pinned ≡ raw.pinned) [ true ↦ refl | false ↦ refl ]

-- two plans have the same variables, live and pinned facts, and value classes
pub record SameShape (plan other : PlanView) : Type 0 where
  pub count : length other.classes ≡ length plan.classes
  pub held : (class id var : ℕ) → is_some (held_by other class id var) ≡ is_some (held_by plan class id var)
  pub live : (class id : ℕ) → is_live other class id ≡ is_live plan class id
  pub pinned : (class id : ℕ) → is_pinned other class id ≡ is_pinned plan class id
  pub ranges : (class : ℕ) → (class_of other class).ranges ≡ (class_of plan class).ranges

pub same_itself : (plan : PlanView) → SameShape plan plan
same_itself plan = record { count = refl; held = λ class id var. refl; live = λ class id. refl; pinned = λ class id. refl; ranges = λ class. refl }

pub same_after : (one two three : PlanView) → SameShape one two → SameShape two three → SameShape one three
same_after one two three h k =
    record {
      count = k.count ∙ h.count;
      held = λ class id var. k.held class id var ∙ h.held class id var;
      live = λ class id. k.live class id ∙ h.live class id;
      pinned = λ class id. k.pinned class id ∙ h.pinned class id;
      ranges = λ class. k.ranges class ∙ h.ranges class;
    }

-- setting a variable keeps the shape
pub with_value_shape : (plan : PlanView) (class id var : ℕ) (value : Option ℕ) → class < length plan.classes → SameShape plan (with_value plan class id var value)
unfolding with_value
with_value_shape plan class id var value within =
    let facts = (class_of plan class).facts in
    let change = set_var var value in
    let view = with_record (class_of plan class) id change in
    record {
      count = length-set plan.classes class view;
      held = λ c i v. each_class (λ n w. is_some (option_and_then (λ raw. slice_get raw.values v) (record_with_id i w.facts)) ≡ is_some (held_by plan n i v)) plan class view within (ap (λ o. is_some (option_and_then (λ (raw : Raw). slice_get raw.values v) o)) (found_changed facts id i change (λ r. refl)) ∙ held_changed (record_with_id i facts) id var v value) (λ n. refl) c;
      live = λ c i. each_class (λ n w. is_some (record_with_id i w.facts) ≡ is_live plan n i) plan class view within (ap (λ (o : Option Raw). is_some o) (found_changed facts id i change (λ r. refl)) ∙ live_changed (record_with_id i facts) (changed_if id change)) (λ n. refl) c;
      pinned = λ c i. each_class (λ n w. option_map_or (λ (raw : Raw). raw.pinned) (record_with_id i w.facts) false ≡ is_pinned plan n i) plan class view within (ap (λ (o : Option Raw). option_map_or (λ (raw : Raw). raw.pinned) o false) (found_changed facts id i change (λ r. refl)) ∙ pinned_changed (record_with_id i facts) (changed_if id change) (λ r. changed_pinned r id var value)) (λ n. refl) c;
      ranges = λ c. each_class (λ n w. w.ranges ≡ (class_of plan n).ranges) plan class view within refl (λ n. refl) c;
    }

same_value : (plan other : PlanView) → SameShape plan other → (range : ℕ) (value : Option ℕ) → is_value_of other range value ≡ is_value_of plan range value
same_value plan other same range None = refl
same_value plan other same range (Some id) = same.live range id

same_in_range : (plan other : PlanView) → SameShape plan other → (found : Option ℕ) (value : Option ℕ) → option_map_or (λ range. is_value_of other range value) found false ≡ option_map_or (λ range. is_value_of plan range value) found false
same_in_range plan other same None value = refl
same_in_range plan other same (Some range) value = same_value plan other same range value

same_range : (plan other : PlanView) → SameShape plan other → (set : Set) → is_in_range other set ≡ is_in_range plan set
same_range plan other same set =
    ap (λ (ranges : List ℕ). option_map_or (λ range. is_value_of other range set.value) (slice_get ranges set.var) false) (same.ranges set.class)
    ∙ same_in_range plan other same (slice_get (class_of plan set.class).ranges set.var) set.value

same_movable : (plan other : PlanView) → SameShape plan other → (set : Set) → is_movable_var other set ≡ is_movable_var plan set
same_movable plan other same set =
    ap (λ b. b && not (is_pinned other set.class set.id)) (same.held set.class set.id set.var)
    ∙ ap (λ b. is_some (held_by plan set.class set.id set.var) && not b) (same.pinned set.class set.id)

-- one set is legal in both or neither
pub same_legal_set : (plan other : PlanView) → SameShape plan other → (set : Set) → is_legal_set other set ≡ is_legal_set plan set
same_legal_set plan other same set =
    ap (λ b. b && is_in_range other set) (same_movable plan other same set)
    ∙ ap (λ b. is_movable_var plan set && b) (same_range plan other same set)

-- an edit is legal in both or neither
pub same_legal : (plan other : PlanView) → SameShape plan other → (sets : List Set) → is_legal other sets ≡ is_legal plan sets
same_legal plan other same [] = refl
same_legal plan other same (set ∷ sets) = ap (λ b. b && list_all (is_legal_set other) sets) (same_legal_set plan other same set) ∙ ap (λ b. is_legal_set plan set && b) (same_legal plan other same sets)

pub both_left : (a b : Bool) → (a && b) ≡ true → a ≡ true
both_left true b h = refl
both_left false b h = h

pub both_right : (a b : Bool) → (a && b) ≡ true → b ≡ true
both_right true b h = h
both_right false b h = cc

in_values : (values : List (Option ℕ)) (var : ℕ) → is_some (slice_get values var) ≡ true → var < length values
in_values [] var h = absurd (let e : false ≡ true = h in cc)
in_values (x ∷ xs) zero h = omega arith
in_values (x ∷ xs) (suc var) h = let k = in_values xs var h in omega arith

var_there : (found : Option Raw) (var : ℕ) → is_some (option_and_then (λ raw. slice_get raw.values var) found) ≡ true → IsSomeAnd found (λ raw. var < length raw.values)
var_there None var h = absurd (let e : false ≡ true = h in cc)
var_there (Some raw) var h = in_values raw.values var h

-- the parts of a legal set: its variable is there, and its value may be set
pub legal_var : (plan : PlanView) (set : Set) → is_legal_set plan set ≡ true → is_some (held_by plan set.class set.id set.var) ≡ true
legal_var plan set legal = both_left _ _ (both_left _ _ legal)

pub legal_range : (plan : PlanView) (set : Set) → is_legal_set plan set ≡ true → is_in_range plan set ≡ true
legal_range plan set legal = both_right _ _ legal

-- the variable of a legal set is there
pub legal_there : (plan : PlanView) (set : Set) → is_legal_set plan set ≡ true → IsSomeAnd (fact_of plan set.class set.id) (λ raw. set.var < length raw.values)
legal_there plan set legal = var_there (fact_of plan set.class set.id) set.var (legal_var plan set legal)

pub legal_class : (plan : PlanView) (set : Set) → is_legal_set plan set ≡ true → set.class < length plan.classes
legal_class plan set legal = class_there plan set.class set.id (λ raw. set.var < length raw.values) (legal_there plan set legal)

value_in_range : (plan : PlanView) (ranges : List ℕ) (var : ℕ) (value : Option ℕ) (found : Option ℕ) → slice_get ranges var ≡ found → option_map_or (λ range. is_value_of plan range value) found false ≡ true → is_value_of plan (get_or ranges var 0) value ≡ true
value_in_range plan ranges var value None is h = absurd (let e : false ≡ true = h in cc)
value_in_range plan ranges var value (Some range) is h = ap (λ n. is_value_of plan n value) (get_or_from_slice_get ranges var range 0 is) ∙ h

-- the value of a legal set is null or live in the variable's range
pub legal_value : (plan : PlanView) (set : Set) → is_legal_set plan set ≡ true → is_value_of plan (range_of plan set.class set.var) set.value ≡ true
legal_value plan set legal = value_in_range plan (class_of plan set.class).ranges set.var set.value (slice_get (class_of plan set.class).ranges set.var) refl (legal_range plan set legal)

-- an edit keeps the shape
pub applied_shape : (plan : PlanView) (sets : List Set) → is_legal plan sets ≡ true → SameShape plan (applied plan sets)
unfolding applied
applied_shape plan [] legal = same_itself plan
applied_shape plan (set ∷ sets) legal =
    let next = with_value plan set.class set.id set.var set.value in
    let one = with_value_shape plan set.class set.id set.var set.value (legal_class plan set (both_left _ _ legal)) in
    same_after plan next (fold (λ p s. with_value p s.class s.id s.var s.value) next sets) one
    (applied_shape next sets (same_legal plan next one sets ∙ both_right _ _ legal))

-- each set of a legal edit is legal
pub legal_at : (plan : PlanView) (sets : List Set) (i : ℕ) (d : Set) → i < length sets → is_legal plan sets ≡ true → is_legal_set plan (get_or sets i d) ≡ true
legal_at plan [] i d within legal = absurd (omega arith)
legal_at plan (set ∷ sets) zero d within legal = both_left _ _ legal
legal_at plan (set ∷ sets) (suc i) d within legal = legal_at plan sets i d (omega arith) (both_right _ _ legal)

applied_step : (plan : PlanView) (sets : List Set) (i : ℕ) (d : Set) → i < length sets → applied plan (take (suc i) sets) ≡ with_value (applied plan (take i sets)) (get_or sets i d).class (get_or sets i d).id (get_or sets i d).var (get_or sets i d).value
unfolding applied
applied_step plan [] i d within = absurd (omega arith)
applied_step plan (set ∷ sets) zero d within = refl
applied_step plan (set ∷ sets) (suc i) d within = applied_step (with_value plan set.class set.id set.var set.value) sets i d (omega arith)

-- one more set is applied
pub record IsApplied (plan : PlanView) (sets : List Set) (i : ℕ) (now : PlanView) : Type 0 where
  pub so_far : now ≡ applied plan (take i sets)
  pub legal : is_legal now sets ≡ true

pub applied_none : (plan : PlanView) (sets : List Set) → is_legal plan sets ≡ true → IsApplied plan sets 0 plan
unfolding applied
applied_none plan sets legal = record { so_far = refl; legal = legal }

pub applied_more : (plan : PlanView) (sets : List Set) (i : ℕ) (d : Set) (now next : PlanView) → IsApplied plan sets i now → i < length sets → next ≡ with_value now (get_or sets i d).class (get_or sets i d).id (get_or sets i d).var (get_or sets i d).value → IsApplied plan sets (i + 1) next
applied_more plan sets i d now next was within is =
    let set = get_or sets i d in
    let e : i + 1 ≡ suc i = omega arith in
    let shape = with_value_shape now set.class set.id set.var set.value (legal_class now set (legal_at now sets i d within was.legal)) in
    record {
      so_far = is ∙ ap (λ (p : PlanView). with_value p set.class set.id set.var set.value) was.so_far ∙ sym (applied_step plan sets i d within) ∙ ap (λ n. applied plan (take n sets)) (sym e);
      legal = ap (λ p. is_legal p sets) is ∙ same_legal now (with_value now set.class set.id set.var set.value) shape sets ∙ was.legal;
    }
