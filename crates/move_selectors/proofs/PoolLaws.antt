-- Pools: how they grow class by class, and stay those of a plan.
use Rattle.std.proofs.Common.{◌≡◌, ◌∙◌, ◌≤◌, ◌+◌, ℕ, zero, suc, Bool, true, false, cond, Some, None, option_map, List, [], ◌∷◌, ◌++◌, append-nil, length, map, filter, set, get_or, slice_get, refl, ap, sym, subst, arith, All}
use Rattle.std.specs.List.{flat_map, range_with_len, enumerate_from}
use Rattle.std.proofs.lemmas.List.{map-append, length-map}
use Rattle.std.proofs.lemmas.List.Elements.{All-nil, All-cons, All-append, All-map, All-weaker, All-set, filter-append}
use Rattle.std.proofs.lemmas.Grind.{flat_map-append}
use Rattle.std.proofs.Math.Seq.{map-set_same}
use Rattle.std.specs.Option.{option_and_then}
use Rattle.std.proofs.lemmas.Option.{slice_get-map, slice_get_within, get_or_from_slice_get}
use Rattle.std.proofs.lemmas.List.Sums.{length-filter, count_by-le-length}
use Rattle.std.proofs.lemmas.List.FromFn.{length-range_with_len}
use Rattle.plan_draws.specs.Picks.{picked, picked_place}
use Rattle.plan_facts.specs.declared.record.Raw.{Raw}
use Rattle.plan_facts.specs.Plan.{PlanView, class_of}
use Rattle.plan_moves.specs.declared.edit.Touch.{Touch}
use Rattle.plan_moves.specs.Edits.{applied}
use Rattle.plan_moves.specs.Entities.{is_entity_class, entity_classes, is_movable, movable_of}
use Rattle.plan_moves.proofs.SameEntities.{SameEntities, applied_entities, same_entity_classes, same_movable, pins_in}
use Rattle.move_selectors.specs.Pool.{ClassPoolView, PoolView, IsClassPoolOf, IsPoolUpTo, IsPoolOf, FollowsEdits, movable_places, touches_of, without_links}

range-more : (a n : ℕ) → range_with_len a (suc n) ≡ range_with_len a n ++ (a + n) ∷ []
range-more a zero = let sum : a ≡ a + 0 = omega arith in λ i. sum i ∷ []
range-more a (suc n) = let sum : (a + 1) + n ≡ a + suc n = omega arith in ap (λ rest. a ∷ rest) (range-more (a + 1) n ∙ ap (λ (k : ℕ). range_with_len (a + 1) n ++ k ∷ []) sum)

-- the classes of entities up to one
abbrev pub classes_upto : PlanView → ℕ → List ℕ
classes_upto plan upto = filter (is_entity_class plan) (range_with_len 0 upto)

classes-more : (plan : PlanView) (class : ℕ) (is : Bool) → is_entity_class plan class ≡ is → classes_upto plan (class + 1) ≡ classes_upto plan class ++ cond is (class ∷ []) []
classes-more plan class is e =
    let next : class + 1 ≡ suc class = omega arith in
    let sum : 0 + class ≡ class = omega arith in
    ap (classes_upto plan) next
    ∙ ap (filter (is_entity_class plan)) (range-more 0 class)
    ∙ ap (λ (n : ℕ). filter (is_entity_class plan) (range_with_len 0 class ++ n ∷ [])) sum
    ∙ filter-append (is_entity_class plan) (range_with_len 0 class) (class ∷ [])
    ∙ ap (λ (b : Bool). classes_upto plan class ++ cond b (class ∷ []) []) e

-- no class yet
pub pool-none : (plan : PlanView) → IsPoolUpTo plan 0 [] []
pool-none plan = record { entities = refl; numbers = refl; parts = All-nil (IsClassPoolOf plan) }

-- a class without variables
pub pool-other : (plan : PlanView) (class : ℕ) (entities : List Touch) (classes : List ClassPoolView) → IsPoolUpTo plan class entities classes → is_entity_class plan class ≡ false → IsPoolUpTo plan (class + 1) entities classes
pool-other plan class entities classes was is =
    let same : classes_upto plan (class + 1) ≡ classes_upto plan class = classes-more plan class false is ∙ append-nil (classes_upto plan class) in
    record {
      entities = was.entities ∙ ap (flat_map (touches_of plan)) (sym same);
      numbers = was.numbers ∙ sym same;
      parts = was.parts;
    }

-- a class of entities
pub pool-more : (plan : PlanView) (class : ℕ) (entities more : List Touch) (classes with_part : List ClassPoolView) (part : ClassPoolView) → IsPoolUpTo plan class entities classes → is_entity_class plan class ≡ true
    → part.class ≡ class → IsClassPoolOf plan part → more ≡ entities ++ touches_of plan class → with_part ≡ classes ++ part ∷ [] → IsPoolUpTo plan (class + 1) more with_part
pool-more plan class entities more classes with_part part was is number part_of entities_are classes_are =
    let longer : classes_upto plan (class + 1) ≡ classes_upto plan class ++ class ∷ [] = classes-more plan class true is in
    record {
      entities =
          entities_are
          ∙ ap (λ (front : List Touch). front ++ touches_of plan class) was.entities
          ∙ ap (λ (last : List Touch). flat_map (touches_of plan) (classes_upto plan class) ++ last) (sym (append-nil (touches_of plan class)))
          ∙ sym (flat_map-append (touches_of plan) (classes_upto plan class) (class ∷ []))
          ∙ ap (flat_map (touches_of plan)) (sym longer);
      numbers =
          ap (map (λ (one : ClassPoolView). one.class)) classes_are
          ∙ map-append (λ (one : ClassPoolView). one.class) classes (part ∷ [])
          ∙ ap (λ (front : List ℕ). front ++ part.class ∷ []) was.numbers
          ∙ ap (λ (n : ℕ). classes_upto plan class ++ n ∷ []) number
          ∙ sym longer;
      parts = subst (All (IsClassPoolOf plan)) (sym classes_are) (All-append (IsClassPoolOf plan) classes (part ∷ []) was.parts (All-cons (IsClassPoolOf plan) part [] part_of (All-nil (IsClassPoolOf plan))));
    }

-- all classes
pub pool-whole : (plan : PlanView) (upto : ℕ) (entities : List Touch) (classes : List ClassPoolView) → length plan.classes ≡ upto → IsPoolUpTo plan upto entities classes → IsPoolOf plan (record { entities = entities; classes = classes })
unfolding movable_of entity_classes
pool-whole plan upto entities classes whole was = record {
  entities = was.entities ∙ ap (λ (n : ℕ). flat_map (touches_of plan) (classes_upto plan n)) (sym whole);
  classes = was.numbers ∙ ap (classes_upto plan) (sym whole);
  parts = was.parts;
}

-- a part of a pool is put anew
pub pool-put : (plan : PlanView) (pool : PoolView) (place : ℕ) (part d : ClassPoolView) → IsPoolOf plan pool → part.class ≡ (get_or pool.classes place d).class → IsClassPoolOf plan part → IsPoolOf plan (record pool { classes = set pool.classes place part })
pool-put plan pool place part d was number part_of = record {
  entities = was.entities;
  classes = map-set_same (λ (one : ClassPoolView). one.class) pool.classes place part d number ∙ was.classes;
  parts = All-set (IsClassPoolOf plan) pool.classes place part part_of was.parts;
}

-- the places of the movable ones, by the pins
places_by_pins : (n : ℕ) (facts : List Raw) → map (λ (at : ℕ × Raw). at.0) (filter (λ (at : ℕ × Raw). is_movable at.1) (enumerate_from n facts)) ≡ map (λ (at : ℕ × (ℕ × Bool)). at.0) (filter (λ (at : ℕ × (ℕ × Bool)). at.1.1) (enumerate_from n (pins_in facts)))
places_by_pins n [] = refl
places_by_pins n (raw ∷ facts) =
    elim (is_movable raw) as (λ (b : Bool). map (λ (at : ℕ × Raw). at.0) (cond b ((n, raw) ∷ filter (λ (at : ℕ × Raw). is_movable at.1) (enumerate_from (n + 1) facts)) (filter (λ (at : ℕ × Raw). is_movable at.1) (enumerate_from (n + 1) facts))) ≡ map (λ (at : ℕ × (ℕ × Bool)). at.0) (cond b ((n, (raw.id, b)) ∷ filter (λ (at : ℕ × (ℕ × Bool)). at.1.1) (enumerate_from (n + 1) (pins_in facts))) (filter (λ (at : ℕ × (ℕ × Bool)). at.1.1) (enumerate_from (n + 1) (pins_in facts))))) [
      | true ↦ ap (λ (rest : List ℕ). n ∷ rest) (places_by_pins (n + 1) facts)
      | false ↦ places_by_pins (n + 1) facts
    ]

-- the movable ones stand at the same places
same_places : (plan other : PlanView) (class : ℕ) → SameEntities plan other → movable_places (class_of other class).facts ≡ movable_places (class_of plan class).facts
same_places plan other class same =
    places_by_pins 0 (class_of other class).facts
    ∙ ap (λ (pins : List (ℕ × Bool)). map (λ (at : ℕ × (ℕ × Bool)). at.0) (filter (λ (at : ℕ × (ℕ × Bool)). at.1.1) (enumerate_from 0 pins))) (same.pins class)
    ∙ sym (places_by_pins 0 (class_of plan class).facts)

map-map-class : (classes : List ClassPoolView) → map (λ (one : ClassPoolView). one.class) (map without_links classes) ≡ map (λ (one : ClassPoolView). one.class) classes
map-map-class [] = refl
map-map-class (part ∷ classes) = ap (λ rest. part.class ∷ rest) (map-map-class classes)

-- without its pillars, a pool goes with the edits of its plan
pub pool-follows : (old new : PoolView) → new ≡ record old { classes = map without_links old.classes } → FollowsEdits old new
pool-follows old new is plan sets was legal =
    let other = applied plan sets in
    let same = applied_entities plan sets legal in
    subst (IsPoolOf other) (sym is) (record {
      entities = was.entities ∙ sym (same_movable plan other same);
      classes = map-map-class old.classes ∙ was.classes ∙ sym (same_entity_classes plan other same);
      parts =
          All-map (IsClassPoolOf other) without_links old.classes
          (All-weaker (IsClassPoolOf plan) (λ part. IsClassPoolOf other (without_links part)) (λ part is_part. record { places = is_part.places ∙ sym (same_places plan other part.class same); links = tt }) old.classes was.parts);
    })

-- the number of the class at a place
pub class-at : (plan : PlanView) (pool : PoolView) (place : ℕ) (part : ClassPoolView) → IsPoolOf plan pool → slice_get pool.classes place ≡ Some part → slice_get (entity_classes plan) place ≡ Some part.class
class-at plan pool place part of at =
    ap (λ (classes : List ℕ). slice_get classes place) (sym of.classes)
    ∙ slice_get-map (λ (one : ClassPoolView). one.class) pool.classes place
    ∙ ap (option_map (λ (one : ClassPoolView). one.class)) at

-- the classes of entities are as many as a pool has
pub class-count : (plan : PlanView) (pool : PoolView) → IsPoolOf plan pool → length (entity_classes plan) ≡ length pool.classes
class-count plan pool of = ap length (sym of.classes) ∙ length-map pool.classes (λ (one : ClassPoolView). one.class)

-- no class is picked
pub picked-no-class : (plan : PlanView) (pool : PoolView) (word : ℕ) → IsPoolOf plan pool → None ≡ picked_place word (length pool.classes) → picked word (entity_classes plan) ≡ None
unfolding picked
picked-no-class plan pool word of none =
    ap (λ (n : ℕ). option_and_then (slice_get (entity_classes plan)) (picked_place word n)) (class-count plan pool of)
    ∙ ap (option_and_then (slice_get (entity_classes plan))) (sym none)

-- a class is picked by its place
pub picked-class : (plan : PlanView) (pool : PoolView) (word place : ℕ) (part : ClassPoolView) → IsPoolOf plan pool → Some place ≡ picked_place word (length pool.classes) → slice_get pool.classes place ≡ Some part → picked word (entity_classes plan) ≡ Some part.class
unfolding picked
picked-class plan pool word place part of some at =
    ap (λ (n : ℕ). option_and_then (slice_get (entity_classes plan)) (picked_place word n)) (class-count plan pool of)
    ∙ ap (option_and_then (slice_get (entity_classes plan))) (sym some)
    ∙ class-at plan pool place part of at

-- the part at a place is one of the plan
pub part-at : (plan : PlanView) (pool : PoolView) (place : ℕ) (part : ClassPoolView) → IsPoolOf plan pool → slice_get pool.classes place ≡ Some part → IsClassPoolOf plan part
part-at plan pool place part of at =
    subst (IsClassPoolOf plan) (get_or_from_slice_get pool.classes place part part at) (of.parts place part (slice_get_within pool.classes place part at))

-- a pool has few entities and classes
pub few_classes : (plan : PlanView) (upto : ℕ) (entities : List Touch) (classes : List ClassPoolView) → IsPoolUpTo plan upto entities classes → length classes ≤ upto
few_classes plan upto entities classes was =
    let same = ap length was.numbers in
    let count = length-map classes (λ (one : ClassPoolView). one.class) in
    let some = length-filter (is_entity_class plan) (range_with_len 0 upto) in
    let fits = count_by-le-length (is_entity_class plan) (range_with_len 0 upto) in
    let all = length-range_with_len 0 upto in
    omega arith
