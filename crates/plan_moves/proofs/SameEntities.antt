-- An edit leaves the entities of a plan, and which of them are pinned.
use Rattle.std.proofs.Common.{◌≡◌, ◌∙◌, ◌<◌, ℕ, Bool, true, false, cond, eqb, List, [], ◌∷◌, ◌++◌, length, map, filter, nat_lt, refl, sym, ap}
use Rattle.std.specs.List.{fold, flat_map, range_with_len}
use Rattle.std.proofs.lemmas.List.{length-set}
use Rattle.plan_facts.specs.declared.record.Raw.{Raw}
use Rattle.plan_facts.specs.Plan.{PlanView, class_of}
use Rattle.plan_facts.specs.PlanChanges.{with_record, with_value}
use Rattle.plan_facts.proofs.Changed.{each_class}
use Rattle.plan_moves.specs.declared.edit.Set.{Set}
use Rattle.plan_moves.specs.declared.edit.Touch.{Touch}
use Rattle.plan_moves.specs.Edits.{is_legal, applied}
use Rattle.plan_moves.specs.Entities.{is_entity_class, entity_classes, touch_of, is_movable, movable_in, movable_of}
use Rattle.plan_moves.proofs.Shape.{set_var, changed_if, with_value_shape, same_legal, legal_class, both_left, both_right}

-- the id of a record, and whether it may be moved
abbrev pub pin_of : Raw → ℕ × Bool
pin_of raw = (raw.id, is_movable raw)

-- those of some records
abbrev pub pins_in : List Raw → List (ℕ × Bool)
pins_in facts = map pin_of facts

-- two plans have the same classes, and in each the same facts as far as their ids and pins go
pub record SameEntities (plan other : PlanView) : Type 0 where
  pub count : length other.classes ≡ length plan.classes
  pub ranges : (class : ℕ) → (class_of other class).ranges ≡ (class_of plan class).ranges
  pub nullables : (class : ℕ) → (class_of other class).nullables ≡ (class_of plan class).nullables
  pub pins : (class : ℕ) → pins_in (class_of other class).facts ≡ pins_in (class_of plan class).facts

same_itself : (plan : PlanView) → SameEntities plan plan
same_itself plan = record { count = refl; ranges = λ class. refl; nullables = λ class. refl; pins = λ class. refl }

same_after : (one two three : PlanView) → SameEntities one two → SameEntities two three → SameEntities one three
same_after one two three h k =
    record {
      count = k.count ∙ h.count;
      ranges = λ class. k.ranges class ∙ h.ranges class;
      nullables = λ class. k.nullables class ∙ h.nullables class;
      pins = λ class. k.pins class ∙ h.pins class;
    }

-- setting a variable of a record keeps its id and its pin
pin_kept : (raw : Raw) (id : ℕ) (change : Raw → Raw) → ((r : Raw) → pin_of (change r) ≡ pin_of r) → pin_of (changed_if id change raw) ≡ pin_of raw
pin_kept raw id change same = elim (eqb raw.id id) as (λ (b : Bool). pin_of (cond b (change raw) raw) ≡ pin_of raw) [ true ↦ same raw | false ↦ refl ]

pins_kept : (facts : List Raw) (id : ℕ) (change : Raw → Raw) → ((r : Raw) → pin_of (change r) ≡ pin_of r) → pins_in (map (changed_if id change) facts) ≡ pins_in facts
pins_kept [] id change same = refl
pins_kept (raw ∷ facts) id change same = λ i. pin_kept raw id change same i ∷ pins_kept facts id change same i

with_value_entities : (plan : PlanView) (set : Set) → set.class < length plan.classes → SameEntities plan (with_value plan set.class set.id set.var set.value)
unfolding with_value
with_value_entities plan set within =
    let old = class_of plan set.class in
    let change = set_var set.var set.value in
    let view = with_record old set.id change in
    record {
      count = length-set plan.classes set.class view;
      ranges = λ c. each_class (λ n w. w.ranges ≡ (class_of plan n).ranges) plan set.class view within refl (λ n. refl) c;
      nullables = λ c. each_class (λ n w. w.nullables ≡ (class_of plan n).nullables) plan set.class view within refl (λ n. refl) c;
      pins = λ c. each_class (λ n w. pins_in w.facts ≡ pins_in (class_of plan n).facts) plan set.class view within (pins_kept old.facts set.id change (λ r. refl)) (λ n. refl) c;
    }

-- a legal edit leaves the entities
pub applied_entities : (plan : PlanView) (sets : List Set) → is_legal plan sets ≡ true → SameEntities plan (applied plan sets)
unfolding applied
applied_entities plan [] legal = same_itself plan
applied_entities plan (set ∷ sets) legal =
    let next = with_value plan set.class set.id set.var set.value in
    let within = legal_class plan set (both_left _ _ legal) in
    let shape = with_value_shape plan set.class set.id set.var set.value within in
    same_after plan next (fold (λ p s. with_value p s.class s.id s.var s.value) next sets) (with_value_entities plan set within)
    (applied_entities next sets (same_legal plan next shape sets ∙ both_right _ _ legal))

-- the classes of entities are the same
filter_same : {A : Type 0} (p q : A → Bool) → ((x : A) → p x ≡ q x) → (xs : List A) → filter p xs ≡ filter q xs
filter_same p q same [] = refl
filter_same p q same (x ∷ xs) = ap (λ b. cond b (x ∷ filter p xs) (filter p xs)) (same x) ∙ ap (λ rest. cond (q x) (x ∷ rest) rest) (filter_same p q same xs)

pub same_entity_classes : (plan other : PlanView) → SameEntities plan other → entity_classes other ≡ entity_classes plan
unfolding entity_classes
same_entity_classes plan other same =
    ap (λ n. filter (is_entity_class other) (range_with_len 0 n)) same.count
    ∙ filter_same (is_entity_class other) (is_entity_class plan) (λ class. ap (λ (ranges : List ℕ). nat_lt 0 (length ranges)) (same.ranges class)) (range_with_len 0 (length plan.classes))

-- the movable ones of some records, by their pins
touches_by_pins : (class : ℕ) (facts : List Raw) → map (touch_of class) (filter is_movable facts) ≡ map (λ (pin : ℕ × Bool). record { class = class; id = pin.0 }) (filter (λ (pin : ℕ × Bool). pin.1) (pins_in facts))
touches_by_pins class [] = refl
touches_by_pins class (raw ∷ facts) =
    elim (is_movable raw) as (λ (b : Bool). map (touch_of class) (cond b (raw ∷ filter is_movable facts) (filter is_movable facts)) ≡ map (λ (pin : ℕ × Bool). record { class = class; id = pin.0 }) (cond b ((raw.id, b) ∷ filter (λ (pin : ℕ × Bool). pin.1) (pins_in facts)) (filter (λ (pin : ℕ × Bool). pin.1) (pins_in facts)))) [
      | true ↦ ap (λ (rest : List Touch). touch_of class raw ∷ rest) (touches_by_pins class facts)
      | false ↦ touches_by_pins class facts
    ]

flat_map_same : {A B : Type 0} (f g : A → List B) → ((x : A) → f x ≡ g x) → (xs : List A) → flat_map f xs ≡ flat_map g xs
flat_map_same f g same [] = refl
flat_map_same f g same (x ∷ xs) = ap (λ front. front ++ flat_map f xs) (same x) ∙ ap (λ rest. g x ++ rest) (flat_map_same f g same xs)

-- the movable entities are the same
pub same_movable : (plan other : PlanView) → SameEntities plan other → movable_of other ≡ movable_of plan
unfolding movable_of
same_movable plan other same =
    let by_pins : List (ℕ × Bool) → ℕ → List Touch = λ pins class. map (λ (pin : ℕ × Bool). record { class = class; id = pin.0 }) (filter (λ (pin : ℕ × Bool). pin.1) pins) in
    ap (flat_map (λ class. map (touch_of class) (movable_in other class))) (same_entity_classes plan other same)
    ∙ flat_map_same (λ class. map (touch_of class) (movable_in other class)) (λ class. map (touch_of class) (movable_in plan class))
    (λ class. touches_by_pins class (class_of other class).facts ∙ ap (λ pins. by_pins pins class) (same.pins class) ∙ sym (touches_by_pins class (class_of plan class).facts))
    (entity_classes plan)
