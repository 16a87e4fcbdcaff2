-- Sets of an entity that go on, variable by variable.
use Rattle.std.proofs.Common.{◌≡◌, ◌∙◌, ◌<◌, ◌≤◌, ◌+◌, ◌-◌, ◌==◌, ◌&&◌, not, ℕ, zero, suc, Bool, true, false, eq-eqb, Option, Some, None, is_some, is_none, IsSomeAnd, List, [], ◌∷◌, ◌++◌, length, get_or, slice_get, map, refl, sym, ap, subst, arith, All}
use Rattle.std.specs.Option.{option_map_or, option_and_then}
use Rattle.std.specs.Ordering.{is_lt, nat_cmp, ordering_then}
use Rattle.std.specs.declared.cmp.Ordering.TheVariants.{Less, Equal}
use Rattle.std.specs.Cmp.{nat_cmp_is}
use Rattle.std.specs.List.{filter, enumerate_from}
use Rattle.std.proofs.lemmas.List.{append-nil}
use Rattle.std.proofs.lemmas.List.Elements.{All-append, All-cons, All-map, All-nil, All-weaker}
use Rattle.std.proofs.lemmas.List.Folds.{list_all-append, list_any_at}
use Rattle.std.proofs.lemmas.Option.{get_or_from_slice_get, slice_get-get_or, slice_get_within}
use Rattle.plan_facts.specs.declared.record.Raw.{Raw}
use Rattle.plan_facts.specs.Plan.{PlanView, AreIncreasing, IsPlan, class_of, fact_of, ids_of, is_live, is_nullable, is_pinned, is_value_of, range_of}
use Rattle.plan_facts.proofs.Changed.{class_there}
use Rattle.plan_facts.proofs.Sound.{class_at, live_by_ids, record_fits}
use Rattle.plan_moves.specs.declared.edit.Set.{Set}
use Rattle.plan_moves.specs.declared.edit.Touch.{Touch}
use Rattle.plan_moves.specs.Edits.{AreInOrder, IsBefore, held_by, is_in_range, is_legal_set, set_order}
use Rattle.plan_moves.specs.Entities.{choices_of, null_choice, values_of}
use Rattle.plan_moves.proofs.Order.{in_order_none, in_order_put}
use Rattle.plan_search.specs.Placing.{choice_set, null_places}
use Rattle.plan_search.specs.Todo.{is_to_place, is_waiting}
use Rattle.construction.specs.Best.{MayGoOn}

-- of two variables of one entity the earlier one comes first
pub before_var : (one other : Set) → one.class ≡ other.class → one.id ≡ other.id → one.var < other.var → IsBefore one other
unfolding set_order
before_var one other class id var =
    let same : (m n : ℕ) → m ≡ n → nat_cmp m n ≡ Equal = λ m n e. sym (nat_cmp_is m n Equal e) in
    let less : nat_cmp one.var other.var ≡ Less = sym (nat_cmp_is one.var other.var Less var) in
    ap (λ o. is_lt (ordering_then o (ordering_then (nat_cmp one.id other.id) (nat_cmp one.var other.var)))) (same one.class other.class class)
    ∙ ap (λ o. is_lt (ordering_then o (nat_cmp one.var other.var))) (same one.id other.id id)
    ∙ ap is_lt less

held_in : (found : Option Raw) (var : ℕ) (held : Option ℕ) → option_and_then (λ raw. slice_get raw.values var) found ≡ Some held → IsSomeAnd found (λ raw. slice_get raw.values var ≡ Some held)
held_in None var held h = cc
held_in (Some raw) var held h = h

-- a variable that is there is one of its class
pub held_there : (plan : PlanView) (class id var : ℕ) (held : Option ℕ) → IsPlan plan → held_by plan class id var ≡ Some held → var < length (class_of plan class).ranges
held_there plan class id var held sound h = at (fact_of plan class id) refl (held_in (fact_of plan class id) var held h)
  where
    at : (found : Option Raw) → fact_of plan class id ≡ found → IsSomeAnd found (λ raw. slice_get raw.values var ≡ Some held) → var < length (class_of plan class).ranges
    at None is h = absurd h
    at (Some raw) is h =
        let there : class < length plan.classes = class_there plan class id (λ r. Unit {0}) (subst (λ o. IsSomeAnd o (λ r. Unit {0})) (sym is) tt) in
        let fits : length raw.values ≡ length (class_of plan class).ranges = record_fits plan (class_of plan class) id raw (class_at plan class sound there) is in
        let within : var < length raw.values = slice_get_within raw.values var held h in
        omega (arith, fits, within)

-- the id at a place of a class is live
live_at : (plan : PlanView) (class place d : ℕ) → place < length (ids_of plan class) → is_live plan class (get_or (ids_of plan class) place d) ≡ true
live_at plan class place d within =
    let id = get_or (ids_of plan class) place d in
    live_by_ids (class_of plan class).facts id ∙ list_any_at (λ other. other == id) (ids_of plan class) place d within (eq-eqb id id refl)

-- each choice of a variable is null or live in its range
choices_in_range : (plan : PlanView) (class var : ℕ) → All (λ value. is_value_of plan (range_of plan class var) value ≡ true) (choices_of plan class var)
choices_in_range plan class var =
    let range = range_of plan class var in
    let P : Option ℕ → Type 0 = λ value. is_value_of plan range value ≡ true in
    All-append P (map (λ id. Some id) (ids_of plan range)) (null_choice (is_nullable plan class var))
    (All-map P (λ (id : ℕ). Some id) (ids_of plan range) (λ k d within. live_at plan range k d within))
    (null_in_range (is_nullable plan class var))
  where
    null_in_range : (nullable : Bool) → All (λ value. is_value_of plan (range_of plan class var) value ≡ true) (null_choice nullable)
    null_in_range true = All-cons (λ value. is_value_of plan (range_of plan class var) value ≡ true) None [] refl (All-nil (λ value. is_value_of plan (range_of plan class var) value ≡ true))
    null_in_range false = All-nil (λ value. is_value_of plan (range_of plan class var) value ≡ true)

-- what is chosen for a null variable of an entity that isn't pinned may be set
pub choice_legal : (plan : PlanView) (entity : Touch) (var place : ℕ) (value : Option ℕ) → IsPlan plan → is_pinned plan entity.class entity.id ≡ false
    → held_by plan entity.class entity.id var ≡ Some None → slice_get (choices_of plan entity.class var) place ≡ Some value
    → is_legal_set plan (choice_set entity var value) ≡ true
choice_legal plan entity var place value sound movable null at =
    let class = entity.class in
    let ranges = (class_of plan class).ranges in
    let there : var < length ranges = held_there plan class entity.id var None sound null in
    let range : slice_get ranges var ≡ Some (range_of plan class var) = slice_get-get_or ranges var 0 there in
    let choice = choices_in_range plan class var place value (slice_get_within (choices_of plan class var) place value at) in
    let good : is_value_of plan (range_of plan class var) value ≡ true =
    ap (is_value_of plan (range_of plan class var)) (sym (get_or_from_slice_get (choices_of plan class var) place value value at)) ∙ choice in
    ap (λ (o : Option (Option ℕ)). (is_some o && not (is_pinned plan class entity.id)) && is_in_range plan (choice_set entity var value)) null
    ∙ ap (λ b. not b && is_in_range plan (choice_set entity var value)) movable
    ∙ ap (λ (o : Option ℕ). option_map_or (λ r. is_value_of plan r value) o false) range
    ∙ good

-- with one more set of the first variable the sets go on with the others
pub go_on_more : (plan : PlanView) (entity : Touch) (var : ℕ) (others : List ℕ) (sets : List Set) (value : Option ℕ) (place : ℕ) → IsPlan plan
    → MayGoOn plan entity (var ∷ others) sets → slice_get (choices_of plan entity.class var) place ≡ Some value
    → MayGoOn plan entity others (sets ++ choice_set entity var value ∷ [])
go_on_more plan entity var others sets value place sound go_on at =
    let one : Set = choice_set entity var value in
    let null : held_by plan entity.class entity.id var ≡ Some None = go_on.there 0 0 (omega arith) in
    let fits : is_legal_set plan one ≡ true = choice_legal plan entity var place value sound go_on.movable null at in
    let earlier : All (λ set. IsBefore set one) sets =
    All-weaker (λ set. (set.class ≡ entity.class) × (set.id ≡ entity.id) × (set.var < var)) (λ set. IsBefore set one) (λ set h. before_var set one h.0 h.1 h.2) sets (go_on.before 0 0 (omega arith)) in
    record {
      movable = go_on.movable;
      there = λ k d h. go_on.there (suc k) d (omega arith);
      increasing = λ i j d ij h. go_on.increasing (suc i) (suc j) d (omega arith) (omega arith);
      order = in_order_put sets [] one (subst AreInOrder (sym (append-nil sets)) go_on.order) earlier (All-nil (IsBefore one));
      legal = list_all-append (is_legal_set plan) sets (one ∷ []) ∙ ap (λ b. b && (is_legal_set plan one && true)) go_on.legal ∙ ap (λ b. b && true) fits;
      before = λ k d h. All-append (λ set. (set.class ≡ entity.class) × (set.id ≡ entity.id) × (set.var < get_or others k d)) sets (one ∷ []) (go_on.before (suc k) d (omega arith))
          (All-cons (λ set. (set.class ≡ entity.class) × (set.id ≡ entity.id) × (set.var < get_or others k d)) one [] (refl, refl, go_on.increasing 0 (suc k) d (omega arith) (omega arith)) (All-nil (λ set. (set.class ≡ entity.class) × (set.id ≡ entity.id) × (set.var < get_or others k d))));
    }

-- the null variables among values numbered from n
abbrev pub nulls_from : ℕ → List (Option ℕ) → List ℕ
nulls_from n values = map (λ (pair : ℕ × Option ℕ). pair.0) (filter (λ (pair : ℕ × Option ℕ). is_none pair.1) (enumerate_from n values))

-- a variable from the next place on is null in its place
later : (n : ℕ) (first : Option ℕ) (values : List (Option ℕ)) → All (λ var. (n + 1 ≤ var) × (slice_get values (var - (n + 1)) ≡ Some None)) (nulls_from (n + 1) values)
    → All (λ var. (n ≤ var) × (slice_get (first ∷ values) (var - n) ≡ Some None)) (nulls_from (n + 1) values)
later n first values all =
    All-weaker (λ var. (n + 1 ≤ var) × (slice_get values (var - (n + 1)) ≡ Some None)) (λ var. (n ≤ var) × (slice_get (first ∷ values) (var - n) ≡ Some None))
    (λ var h. (omega (arith, h.0), ap (λ k. slice_get (first ∷ values) k) (let e : var - n ≡ suc (var - (n + 1)) = omega (arith, h.0) in e) ∙ h.1))
    (nulls_from (n + 1) values) all

-- each is at least n, and null in its place
nulls_at : (n : ℕ) (values : List (Option ℕ)) → All (λ var. (n ≤ var) × (slice_get values (var - n) ≡ Some None)) (nulls_from n values)
nulls_at n [] = All-nil (λ var. (n ≤ var) × (slice_get [] (var - n) ≡ Some None))
nulls_at n (None ∷ values) =
    All-cons (λ var. (n ≤ var) × (slice_get (None ∷ values) (var - n) ≡ Some None)) n (nulls_from (n + 1) values)
    (omega arith, ap (λ k. slice_get (None ∷ values) k) (let e : n - n ≡ 0 = omega arith in e)) (later n None values (nulls_at (n + 1) values))
nulls_at n (Some v ∷ values) = later n (Some v) values (nulls_at (n + 1) values)

increasing_cons : (n : ℕ) (xs : List ℕ) → All (λ x. n + 1 ≤ x) xs → AreIncreasing xs → AreIncreasing (n ∷ xs)
increasing_cons n xs above increasing i zero d ij h = absurd (omega arith)
increasing_cons n xs above increasing zero (suc j) d ij h = let a = above j d (omega arith) in omega (arith, a)
increasing_cons n xs above increasing (suc i) (suc j) d ij h = increasing i j d (omega arith) (omega arith)

nulls_increasing : (n : ℕ) (values : List (Option ℕ)) → AreIncreasing (nulls_from n values)
nulls_increasing n [] = λ i j d ij h. absurd (omega arith)
nulls_increasing n (None ∷ values) = increasing_cons n (nulls_from (n + 1) values) (λ k d h. (nulls_at (n + 1) values k d h).0) (nulls_increasing (n + 1) values)
nulls_increasing n (Some v ∷ values) = nulls_increasing (n + 1) values

-- an entity that waits to be placed isn't pinned
pub waits_movable : (plan : PlanView) (entity : Touch) → is_to_place plan entity ≡ true → is_pinned plan entity.class entity.id ≡ false
waits_movable plan entity waits = unpinned (fact_of plan entity.class entity.id) waits
  where
    not_pinned : (pinned null : Bool) → (not pinned && null) ≡ true → pinned ≡ false
    not_pinned true null h = cc
    not_pinned false null h = refl

    unpinned : (found : Option Raw) → option_map_or is_waiting found false ≡ true → option_map_or (λ (raw : Raw). raw.pinned) found false ≡ false
    unpinned None h = refl
    unpinned (Some raw) h = not_pinned raw.pinned _ h

-- no sets yet go on with all null variables of an entity that isn't pinned
pub go_on_first : (plan : PlanView) (entity : Touch) → is_pinned plan entity.class entity.id ≡ false → MayGoOn plan entity (null_places (values_of plan entity)) []
go_on_first plan entity movable = record {
  movable = movable;
  there = All-weaker (λ var. (0 ≤ var) × (slice_get (values_of plan entity) (var - 0) ≡ Some None)) (λ var. held_by plan entity.class entity.id var ≡ Some None)
      (λ var h. held_in_values (fact_of plan entity.class entity.id) var (ap (λ k. slice_get (values_of plan entity) k) (let e : var ≡ var - 0 = omega arith in e) ∙ h.1))
      (null_places (values_of plan entity)) (nulls_at 0 (values_of plan entity));
  increasing = nulls_increasing 0 (values_of plan entity);
  order = in_order_none;
  legal = refl;
  before = λ k d h. All-nil (λ set. (set.class ≡ entity.class) × (set.id ≡ entity.id) × (set.var < get_or (null_places (values_of plan entity)) k d));
}
  where
    held_in_values : (found : Option Raw) (var : ℕ) → slice_get (option_map_or (λ (raw : Raw). raw.values) found []) var ≡ Some None → option_and_then (λ (raw : Raw). slice_get raw.values var) found ≡ Some None
    held_in_values None var h = cc
    held_in_values (Some raw) var h = h
