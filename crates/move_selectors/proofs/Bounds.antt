-- How few a plan has of each.
use Rattle.std.proofs.Common.{◌≡◌, ◌<◌, ◌≤◌, ◌+◌, inl, inr, ℕ, zero, suc, Bool, true, false, cond, List, ◌∷◌, length, map, filter, sum_by, drop, sym, subst, arith, All}
use Rattle.std.specs.List.{flat_map, range_with_len}
use Rattle.std.proofs.lemmas.List.{length-map, length-append, get_or_past}
use Rattle.std.proofs.lemmas.List.Elements.{All-get_or, All-weaker, All-filter}
use Rattle.std.proofs.lemmas.List.Sums.{get_or-le-sum_by, sum_by-drop_more, length-filter, count_by-le-length}
use Rattle.std.proofs.lemmas.Bool.{cases_lt}
use Rattle.std.proofs.lemmas.Slice.Zip.{AllZip-long}
use Rattle.plan_facts.specs.declared.record.Raw.{Raw}
use Rattle.plan_facts.specs.Limits.{fact_limit}
use Rattle.plan_facts.specs.Plan.{PlanView, ClassView, no_class, class_of, IsPlan, IsClassOf, IsRecordOf}
use Rattle.plan_moves.specs.declared.edit.Touch.{Touch}
use Rattle.plan_moves.specs.Entities.{is_entity_class, entity_classes, touch_of, is_movable, movable_in, movable_of}
use Rattle.move_selectors.specs.Linked.{AreShort}

-- each class of a plan, or the one with nothing in it past the last, has few facts and variables, and as many values in each fact
record IsSmall (class : ClassView) : Type 0 where
  facts : length class.facts ≤ fact_limit
  nullables : length class.nullables ≤ 2
  values : All (λ (raw : Raw). length raw.values ≡ length class.nullables) class.facts

small_within : (plan : PlanView) (class : ℕ) → IsPlan plan → class < length plan.classes → IsSmall (class_of plan class)
small_within plan class sound within =
    let is : IsClassOf plan (class_of plan class) = All-get_or (IsClassOf plan) plan.classes class no_class within sound.classes in
    let part = get_or-le-sum_by (λ (view : ClassView). length view.facts) plan.classes class no_class within in
    let live = sound.live in
    let made = sound.made in
    let few = is.few_variables in
    let same = is.nullables in
    record {
      facts = omega arith;
      nullables = omega arith;
      values = All-weaker (IsRecordOf plan (class_of plan class)) (λ (raw : Raw). length raw.values ≡ length (class_of plan class).nullables) (λ raw fits. let long = AllZip-long _ _ _ fits.values in omega arith) (class_of plan class).facts is.records;
    }

small_past : (plan : PlanView) (class : ℕ) → length plan.classes ≤ class → IsSmall (class_of plan class)
small_past plan class past =
    subst IsSmall (sym (get_or_past plan.classes class no_class past)) (record { facts = omega arith; nullables = omega arith; values = λ k d within. absurd (omega arith) })

small_class : (plan : PlanView) (class : ℕ) → IsPlan plan → IsSmall (class_of plan class)
small_class plan class sound =
    elim (cases_lt class (length plan.classes)) [ inl within ↦ small_within plan class sound within | inr past ↦ small_past plan class past ]

pub few_facts : (plan : PlanView) (class : ℕ) → IsPlan plan → length (class_of plan class).facts ≤ fact_limit
few_facts plan class sound = (small_class plan class sound).facts

-- the movable entities of a class have a value for each variable
pub short_movables : (plan : PlanView) (class : ℕ) → IsPlan plan → AreShort (class_of plan class).nullables (movable_in plan class)
short_movables plan class sound =
    let small = small_class plan class sound in
    record {
      few = small.nullables;
      values = All-filter is_movable (λ (raw : Raw). length raw.values ≡ length (class_of plan class).nullables) (class_of plan class).facts small.values;
    }

-- the movable entities of some classes are at most the facts of all from the first one on
few_from : (plan : PlanView) (left class : ℕ) → class + left ≤ length plan.classes → length (flat_map (λ n. map (touch_of n) (movable_in plan n)) (filter (is_entity_class plan) (range_with_len class left))) ≤ sum_by (λ (view : ClassView). length view.facts) (drop class plan.classes)
few_from plan zero class le = omega arith
few_from plan (suc left) class le =
    let others : List ℕ = filter (is_entity_class plan) (range_with_len (class + 1) left) in
    let touches : ℕ → List Touch = λ n. map (touch_of n) (movable_in plan n) in
    let rest = few_from plan left (class + 1) (omega arith) in
    let whole = sum_by-drop_more (λ (view : ClassView). length view.facts) plan.classes class no_class (omega arith) in
    elim (is_entity_class plan class) as (λ (is : Bool). length (flat_map touches (cond is (class ∷ others) others)) ≤ sum_by (λ (view : ClassView). length view.facts) (drop class plan.classes)) [
      | true ↦
          let both = length-append (touches class) (flat_map touches others) in
          let here = length-map (movable_in plan class) (touch_of class) in
          let count = length-filter is_movable (class_of plan class).facts in
          let facts = count_by-le-length is_movable (class_of plan class).facts in
          omega arith
      | false ↦ omega arith
    ]

-- a plan has few movable entities
pub few_movable : (plan : PlanView) → IsPlan plan → length (movable_of plan) ≤ fact_limit
unfolding movable_of entity_classes
few_movable plan sound =
    let part = few_from plan (length plan.classes) 0 (omega arith) in
    let live = sound.live in
    let made = sound.made in
    omega arith
