-- What is to be placed in a plan may be placed, one after the other.
use Rattle.std.proofs.Common.{◌≡◌, ◌∙◌, ◌≢◌, ◌<◌, ◌≤◌, ◌+◌, ◌&&◌, ℕ, zero, suc, Bool, true, false, not, cond, eqb, Option, None, Some, List, map, length, get_or, refl, ap, subst, arith}
use Rattle.std.specs.Prelude.{All, AllPairs, IsPermutation}
use Rattle.std.specs.Bool.{Decides}
use Rattle.std.specs.List.{range_with_len}
use Rattle.std.specs.Option.{option_map_or}
use Rattle.std.proofs.lemmas.Bool.Decides.{nat_tests}
use Rattle.std.proofs.lemmas.List.Elements.{All-cons, All-filter, All-map, All-nil, All-weaker, filter_passes}
use Rattle.std.proofs.lemmas.List.Kept.{AllPairs-filter}
use Rattle.std.proofs.lemmas.List.Sorted.{All-permutation}
use Rattle.std.proofs.lemmas.Map.Keys.{IsDistinct-IsPermutation}
use Rattle.std.proofs.lemmas.Map.Made.{AllPairs-from_IsDistinct, IsDistinct-from_AllPairs}
use Rattle.plan_facts.specs.declared.record.Raw.{Raw}
use Rattle.plan_facts.specs.Plan.{IsPlan, PlanView, class_of, fact_of, ids_in}
use Rattle.plan_facts.proofs.Places.{eqb_same, same_eqb}
use Rattle.plan_facts.proofs.Sound.{class_at}
use Rattle.plan_moves.specs.declared.edit.Touch.{Touch}
use Rattle.plan_moves.specs.Edits.{is_same}
use Rattle.plan_moves.specs.Entities.{entities_of, entity_classes, is_entity_class, touch_of}
use Rattle.plan_moves.proofs.Shape.{both_left, both_right}
use Rattle.plan_rules.proofs.Rising.{Rising, pairs_from_rising, rising_from_pairs, rising-filter, rising-flat_map, rising-map, rising-unmap}
use Rattle.plan_search.specs.InOrder.{in_order}
use Rattle.plan_search.specs.Todo.{entities_to_place, entity_difficulty, harder_first, is_to_place, is_waiting, todo_by}
use Rattle.plan_search.specs.TodoLaws.{AwaitPlacing, TodoAwaits, ToPlaceWaits, Waits}
use Rattle.plan_search.proofs.InOrderLaws.{IsPermutation-in_order}

-- numbers from one on are no less than it
range_above : (low a n : ℕ) → low ≤ a → All (λ k. low ≤ k) (range_with_len a n)
range_above low a zero le = All-nil (λ k. low ≤ k)
range_above low a (suc n) le = All-cons (λ k. low ≤ k) a (range_with_len (a + 1) n) le (range_above low (a + 1) n (omega arith))

-- and below the one behind them
pub range_below : (high a n : ℕ) → a + n ≤ high → All (λ k. k < high) (range_with_len a n)
range_below high a zero le = All-nil (λ k. k < high)
range_below high a (suc n) le = All-cons (λ k. k < high) a (range_with_len (a + 1) n) (omega arith) (range_below high (a + 1) n (omega arith))

-- they rise
range_rises : (a n : ℕ) → Rising (λ (k l : ℕ). k < l) (range_with_len a n)
range_rises a zero = tt
range_rises a (suc n) =
    (All-weaker (λ k. a + 1 ≤ k) (λ k. a < k) (λ k h. omega arith) (range_with_len (a + 1) n) (range_above (a + 1) (a + 1) n (omega arith)), range_rises (a + 1) n)

-- the entities of a class are different
class_differs : (plan : PlanView) (class : ℕ) → IsPlan plan → class < length plan.classes
    → Rising (λ (one other : Touch). one ≢ other) (map (touch_of class) (class_of plan class).facts)
class_differs plan class sound within =
    let facts = (class_of plan class).facts in
    let up = (class_at plan class sound within).increasing in
    rising-map (λ (one other : Raw). one.id < other.id) (λ (one other : Touch). one ≢ other) (touch_of class)
    (λ one other below same. let e : one.id ≡ other.id = ap (λ (t : Touch). t.id) same in omega arith) facts
    (rising-unmap (λ (raw : Raw). raw.id) (λ (k l : ℕ). k < l) facts (rising_from_pairs (λ (k l : ℕ). k < l) (ids_in facts) up))

-- those of two classes are too
classes_differ : (plan : PlanView) (class other : ℕ) → class < other
    → All (λ one. All (λ two. one ≢ two) (map (touch_of other) (class_of plan other).facts)) (map (touch_of class) (class_of plan class).facts)
classes_differ plan class other below =
    All-map (λ one. All (λ two. one ≢ two) (map (touch_of other) (class_of plan other).facts)) (touch_of class) (class_of plan class).facts
    (λ k d h. All-map (λ two. touch_of class (get_or (class_of plan class).facts k d) ≢ two) (touch_of other) (class_of plan other).facts
    (λ l e i same. let is : class ≡ other = ap (λ (t : Touch). t.class) same in omega arith))

-- all entities are different
entities_differ : (plan : PlanView) → IsPlan plan → AllPairs (λ one other. one ≢ other) (entities_of plan)
unfolding entities_of entity_classes
entities_differ plan sound =
    let classes = range_with_len 0 (length plan.classes) in
    let within : All (λ class. class < length plan.classes) (entity_classes plan) =
    All-filter (is_entity_class plan) (λ class. class < length plan.classes) classes (range_below (length plan.classes) 0 (length plan.classes) (omega arith)) in
    pairs_from_rising (λ (one other : Touch). one ≢ other) (entities_of plan)
    (rising-flat_map (λ (k l : ℕ). k < l) (λ (one other : Touch). one ≢ other) (λ class. map (touch_of class) (class_of plan class).facts) (entity_classes plan)
    (rising-filter (λ (k l : ℕ). k < l) (is_entity_class plan) classes (range_rises 0 (length plan.classes)))
    (All-weaker (λ class. class < length plan.classes) _ (λ class h. class_differs plan class sound h) (entity_classes plan) within)
    (classes_differ plan))

-- two entities are one where their classes and ids are equal
same_decides : (one other : Touch) → Decides (is_same one other) (one ≡ other)
same_decides one other = (
  λ h.
      let class = same_eqb one.class other.class (both_left _ _ h) in
      let id = same_eqb one.id other.id (both_right _ _ h) in
      λ i. record { class = class i; id = id i },
  λ is. subst (λ (t : Touch). is_same one t ≡ true) is (λ i. eqb_same one.class one.class refl i && eqb_same one.id one.id refl i),
)

same_flips : (one other : Touch) → is_same one other ≡ is_same other one
same_flips one other =
    let flips : (a b : ℕ) → eqb a b ≡ eqb b a = λ a b. grind (arith, nat_tests) in
    λ i. flips one.class other.class i && flips one.id other.id i

-- entities that are different are so in any order
pub different_in_order : (xs ys : List Touch) → IsPermutation xs ys → AllPairs (λ one other. one ≢ other) xs → AllPairs (λ one other. one ≢ other) ys
different_in_order xs ys moved apart =
    AllPairs-from_IsDistinct same_decides ys (IsDistinct-IsPermutation is_same same_flips xs ys moved (IsDistinct-from_AllPairs same_decides xs apart))

-- what waits in entity order may be placed
entities_await : (plan : PlanView) → IsPlan plan → AwaitPlacing plan (entities_to_place plan)
unfolding entities_to_place
entities_await plan sound = record {
  different = AllPairs-filter (λ (one other : Touch). one ≢ other) (is_to_place plan) (entities_of plan) (entities_differ plan sound);
  each = filter_passes (is_to_place plan) (entities_of plan);
}

-- and in any other order
awaits_in_order : (plan : PlanView) (todo moved : List Touch) → IsPermutation todo moved → AwaitPlacing plan todo → AwaitPlacing plan moved
awaits_in_order plan todo moved is h = record {
  different = different_in_order todo moved is h.different;
  each = All-permutation (λ (entity : Touch). is_to_place plan entity ≡ true) todo moved is h.each;
}

pub todo_awaits : TodoAwaits
unfolding todo_by
todo_awaits m harder decreasing plan sound =
    let todo = entities_to_place plan in
    let cmp = harder_first (entity_difficulty m harder plan) in
    elim decreasing as (λ b. AwaitPlacing plan (cond b (in_order cmp todo) todo)) [
      | true ↦ awaits_in_order plan todo (in_order cmp todo) (IsPermutation-in_order cmp todo) (entities_await plan sound)
      | false ↦ entities_await plan sound
    ]

waits_in : (plan : PlanView) (entity : Touch) (o : Option Raw) → fact_of plan entity.class entity.id ≡ o
    → option_map_or is_waiting o false ≡ true → Waits plan entity
waits_in plan entity None is waits = absurd cc
waits_in plan entity (Some raw) is waits =
    record { raw = raw; live = is; free = not_left raw.pinned _ waits; null = and_right (not raw.pinned) _ waits }
  where
    not_left : (a b : Bool) → (not a && b) ≡ true → a ≡ false
    not_left true b h = cc
    not_left false b h = refl

    and_right : (a b : Bool) → (a && b) ≡ true → b ≡ true
    and_right true b h = h
    and_right false b h = cc

-- an entity is to be placed exactly where it waits
pub to_place_waits : ToPlaceWaits
to_place_waits plan entity = (
  waits_in plan entity (fact_of plan entity.class entity.id) refl,
  λ w. ap (λ o. option_map_or is_waiting o false) w.live ∙ (λ i. not (w.free i) && w.null i),
)
