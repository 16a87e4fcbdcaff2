-- What is to be placed, class by class, and the null variables of an entity, one by one.
use Rattle.std.proofs.Common.{◌≡◌, ◌∙◌, ◌<◌, ◌≤◌, ◌+◌, ℕ, suc, Bool, true, false, cond, Option, Some, None, is_none, is_some, not, IsSomeAnd, List, [], ◌∷◌, ◌++◌, length, get_or, map, take, refl, sym, ap, subst, arith, All}
use Rattle.std.specs.Option.{option_map_or}
use Rattle.std.specs.List.{filter, flat_map, enumerate_from, range_with_len}
use Rattle.std.proofs.lemmas.List.{append-nil, get_or-map, length-take, map-append, take_more}
use Rattle.std.proofs.lemmas.List.Elements.{All-filter, All-head, All-tail, filter-append}
use Rattle.plan_facts.specs.declared.record.Raw.{Raw}
use Rattle.plan_facts.specs.Plan.{PlanView, IsPlan, class_of, fact_of}
use Rattle.plan_facts.proofs.Changed.{class_there}
use Rattle.plan_facts.proofs.Places.{record_at}
use Rattle.plan_facts.proofs.Sound.{class_at, record_fits}
use Rattle.plan_moves.specs.declared.edit.Touch.{Touch}
use Rattle.plan_moves.specs.Entities.{entities_of, entity_classes, is_entity_class, touch_of}
use Rattle.plan_search.specs.Placing.{null_places}
use Rattle.plan_search.specs.Todo.{entities_to_place, is_to_place, is_waiting}
use Rattle.plan_search.proofs.Awaiting.{range_below}

-- the entities of a class that are to be placed
abbrev pub waiting_in : PlanView → ℕ → List Touch
waiting_in plan class = map (touch_of class) (filter is_waiting (class_of plan class).facts)

-- what passes a test among what lists list
filter-flat_map : {A B : Type 0} (p : B → Bool) (f : A → List B) (xs : List A) → filter p (flat_map f xs) ≡ flat_map (λ x. filter p (f x)) xs
filter-flat_map p f [] = refl
filter-flat_map p f (x ∷ xs) = filter-append p (f x) (flat_map f xs) ∙ ap (λ zs. filter p (f x) ++ zs) (filter-flat_map p f xs)

-- lists that agree on each member list the same
pub flat_map-same : {A B : Type 0} (f g : A → List B) (xs : List A) → All (λ x. f x ≡ g x) xs → flat_map f xs ≡ flat_map g xs
flat_map-same f g [] same = refl
flat_map-same f g (x ∷ xs) same =
    let P : _ → Type 0 = λ x. f x ≡ g x in
    let here = All-head P x xs same in
    let rest = flat_map-same f g xs (All-tail P x xs same) in
    λ i. here i ++ rest i

-- a test of what a function makes, where another test agrees with it on each member
filter-map_same : {A B : Type 0} (p : B → Bool) (q : A → Bool) (f : A → B) (xs : List A) → All (λ x. p (f x) ≡ q x) xs → filter p (map f xs) ≡ map f (filter q xs)
filter-map_same p q f [] same = refl
filter-map_same p q f (x ∷ xs) same =
    let P : _ → Type 0 = λ x. p (f x) ≡ q x in
    let rest = filter-map_same p q f xs (All-tail P x xs same) in
    ap (λ b. cond b (f x ∷ filter p (map f xs)) (filter p (map f xs))) (All-head P x xs same)
    ∙ elim (q x) as (λ b. cond b (f x ∷ filter p (map f xs)) (filter p (map f xs)) ≡ map f (cond b (x ∷ filter q xs) (filter q xs))) [
      | true ↦ ap (λ zs. f x ∷ zs) rest
      | false ↦ rest
    ]

-- the entities of a class that are to be placed are seen from its records
waiting_in-is : (plan : PlanView) (class : ℕ) → IsPlan plan → class < length plan.classes
    → filter (is_to_place plan) (map (touch_of class) (class_of plan class).facts) ≡ waiting_in plan class
waiting_in-is plan class sound within =
    let facts = (class_of plan class).facts in
    let up = (class_at plan class sound within).increasing in
    filter-map_same (is_to_place plan) is_waiting (touch_of class) facts
    (λ k d h.
    let id = get_or-map (λ (raw : Raw). raw.id) facts k d 0 h in
    ap (λ (found : Option Raw). option_map_or is_waiting found false) (record_at facts k (get_or facts k d).id d up h id))

-- what is to be placed, class by class
pub entities_to_place-by_class : (plan : PlanView) → IsPlan plan → flat_map (waiting_in plan) (entity_classes plan) ≡ entities_to_place plan
unfolding entities_to_place entities_of entity_classes
entities_to_place-by_class plan sound =
    let n = length plan.classes in
    sym (filter-flat_map (is_to_place plan) (λ class. map (touch_of class) (class_of plan class).facts) (filter (is_entity_class plan) (range_with_len 0 n))
    ∙ flat_map-same (λ class. filter (is_to_place plan) (map (touch_of class) (class_of plan class).facts)) (waiting_in plan) (filter (is_entity_class plan) (range_with_len 0 n))
    (λ k d h. waiting_in-is plan _ sound (All-filter (is_entity_class plan) (λ class. class < n) (range_with_len 0 n) (range_below n 0 n (omega arith)) k d h)))

-- an entity has at most 2 variables
pub few_values : (plan : PlanView) (class id : ℕ) (raw : Raw) → IsPlan plan → fact_of plan class id ≡ Some raw → length raw.values ≤ 2
few_values plan class id raw sound found =
    let there : class < length plan.classes = class_there plan class id (λ r. Unit {0}) (subst (λ o. IsSomeAnd o (λ r. Unit {0})) (sym found) tt) in
    let view = class_at plan class sound there in
    let fits : length raw.values ≡ length (class_of plan class).ranges = record_fits plan (class_of plan class) id raw view found in
    omega (arith, view.few_variables)

-- two lists numbered one behind the other
pub enumerate-append : {X : Type 0} (n : ℕ) (xs ys : List X) → enumerate_from n (xs ++ ys) ≡ enumerate_from n xs ++ enumerate_from (n + length xs) ys
enumerate-append n [] ys = ap (λ k. enumerate_from k ys) (let e : n ≡ n + 0 = omega arith in e)
enumerate-append n (x ∷ xs) ys =
    ap (λ zs. (n, x) ∷ zs) (enumerate-append (n + 1) xs ys ∙ ap (λ k. enumerate_from (n + 1) xs ++ enumerate_from k ys) (let e : n + 1 + length xs ≡ n + suc (length xs) = omega arith in e))

-- a list numbered up to the next place
pub enumerate-push : {X : Type 0} (xs : List X) (k : ℕ) (d : X) → k < length xs → enumerate_from 0 (take (k + 1) xs) ≡ enumerate_from 0 (take k xs) ++ (k, get_or xs k d) ∷ []
enumerate-push xs k d within =
    let long : 0 + length (take k xs) ≡ k = omega (arith, length-take k xs) in
    ap (enumerate_from 0) (take_more xs k d within)
    ∙ enumerate-append 0 (take k xs) (get_or xs k d ∷ []) ∙ ap (λ n. enumerate_from 0 (take k xs) ++ (n, get_or xs k d) ∷ []) long

-- one value more among those whose null places are known
pub null_places-push : (values : List (Option ℕ)) (k : ℕ) (d : Option ℕ) → k < length values → null_places (take (k + 1) values) ≡ null_places (take k values) ++ cond (is_none (get_or values k d)) (k ∷ []) []
null_places-push values k d within =
    let front = enumerate_from 0 (take k values) in
    let null : ℕ × Option ℕ → Bool = λ pair. is_none pair.1 in
    ap (λ zs. map (λ (pair : ℕ × Option ℕ). pair.0) (filter null zs)) (enumerate-push values k d within)
    ∙ ap (map (λ (pair : ℕ × Option ℕ). pair.0)) (filter-append null front ((k, get_or values k d) ∷ []))
    ∙ map-append (λ (pair : ℕ × Option ℕ). pair.0) (filter null front) (filter null ((k, get_or values k d) ∷ []))
    ∙ ap (λ zs. null_places (take k values) ++ zs) (last (get_or values k d))
  where
    last : (value : Option ℕ) → map (λ (pair : ℕ × Option ℕ). pair.0) (filter (λ (pair : ℕ × Option ℕ). is_none pair.1) ((k, value) ∷ [])) ≡ cond (is_none value) (k ∷ []) []
    last None = refl
    last (Some v) = refl

is_none-not : (value : Option ℕ) (null : Bool) → is_some value ≡ not null → is_none value ≡ null
is_none-not None true h = refl
is_none-not None false h = cc
is_none-not (Some v) true h = cc
is_none-not (Some v) false h = refl

-- a null place was pushed
pub null_pushed : (values slice : List (Option ℕ)) (k : ℕ) (null : Bool) (old new : List ℕ) → k < length values → slice ≡ values → is_some (get_or slice k None) ≡ not null → null ≡ true
    → old ≡ null_places (take k values) → new ≡ old ++ k ∷ [] → new ≡ null_places (take (k + 1) values)
null_pushed values slice k null old new within same answer null_is was now =
    let is : is_none (get_or values k None) ≡ true = ap (λ (zs : List (Option ℕ)). is_none (get_or zs k None)) (sym same) ∙ is_none-not (get_or slice k None) null answer ∙ null_is in
    now ∙ ap (λ zs. zs ++ k ∷ []) was ∙ sym (null_places-push values k None within ∙ ap (λ b. null_places (take k values) ++ cond b (k ∷ []) []) is)

-- a place that isn't null was passed over
pub null_passed : (values slice : List (Option ℕ)) (k : ℕ) (null : Bool) (old new : List ℕ) → k < length values → slice ≡ values → is_some (get_or slice k None) ≡ not null → null ≡ false
    → old ≡ null_places (take k values) → new ≡ old → new ≡ null_places (take (k + 1) values)
null_passed values slice k null old new within same answer null_is was now =
    let is : is_none (get_or values k None) ≡ false = ap (λ (zs : List (Option ℕ)). is_none (get_or zs k None)) (sym same) ∙ is_none-not (get_or slice k None) null answer ∙ null_is in
    now ∙ was ∙ sym (null_places-push values k None within ∙ ap (λ b. null_places (take k values) ++ cond b (k ∷ []) []) is ∙ append-nil (null_places (take k values)))
