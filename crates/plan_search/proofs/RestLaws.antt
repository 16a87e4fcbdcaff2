-- What an entity's placing leaves: the rest is to be placed still, and an edit that changes nothing leaves the plan.
use Rattle.std.proofs.Common.{◌≡◌, ◌∙◌, ◌&&◌, ◌||◌, ℕ, suc, Bool, true, false, cond, not, eqb, Option, Some, None, List, [], ◌∷◌, map, set, slice_get, fold, refl, sym, ap, subst, arith}
use Rattle.std.specs.Prelude.{All, nat_eq}
use Rattle.std.specs.Option.{option_eq, option_map_or, option_and_then}
use Rattle.std.specs.List.{list_any}
use Rattle.std.proofs.lemmas.List.{set-get_or}
use Rattle.std.proofs.lemmas.List.Elements.{All-cons, All-head, All-map, All-nil, All-tail, All-weaker}
use Rattle.std.proofs.lemmas.Option.{get_or_from_slice_get}
use Rattle.plan_scores.specs.declared.plan_score.PlanScore.{PlanScore}
use Rattle.plan_scores.specs.Best.{better_of, first_best}
use Rattle.plan_scores.specs.Order.{is_better_plan}
use Rattle.plan_facts.specs.declared.record.Raw.{Raw}
use Rattle.plan_facts.specs.Plan.{AreIncreasing, IsPlan, PlanView, class_of, fact_of, ids_in, no_class, record_with_id}
use Rattle.plan_facts.specs.PlanChanges.{with_class, with_value}
use Rattle.plan_facts.proofs.Places.{changed_none, increasing_head, increasing_tail, same_eqb}
use Rattle.plan_facts.proofs.PlanLaws.{fact_of-with_value_other}
use Rattle.plan_facts.proofs.Sound.{class_at}
use Rattle.plan_moves.specs.declared.edit.Set.{Set}
use Rattle.plan_moves.specs.declared.edit.Touch.{Touch}
use Rattle.plan_moves.specs.Edits.{applied, held_by, is_change, is_legal, is_legal_set}
use Rattle.plan_moves.specs.Entities.{choices_of, values_of}
use Rattle.plan_moves.proofs.Restored.{holds, with_classes, with_facts}
use Rattle.plan_moves.proofs.Shape.{both_left, both_right, changed_if, legal_class, set_var}
use Rattle.plan_rules.proofs.Rising.{All-flat_map}
use Rattle.plan_search.specs.Placing.{best_edit, choice_set, choice_sets, combinations, null_choices, null_places, placing_edits}
use Rattle.plan_search.specs.Todo.{is_waiting}
use Rattle.plan_search.specs.TodoLaws.{IdleEditsLeaveThePlan, RestAwaits}

-- what holds of all members holds of the first best one
pub best_holds : {A : Type 0} (P : A → Type 0) (score : A → PlanScore) (xs : List A) (x : A) → first_best score xs ≡ Some x → All P xs → P x
best_holds P score [] x is all = cc
best_holds P score (first ∷ rest) x is all =
    let same : fold (better_of score) first rest ≡ x = cc in
    subst P same (folded first rest (All-head P first rest all) (All-tail P first rest all))
  where
    folded : (best : _) (rest : List _) → P best → All P rest → P (fold (better_of score) best rest)
    folded best [] here all = here
    folded best (next ∷ rest) here all =
        folded (better_of score best next) rest
        (elim (is_better_plan (score next) (score best)) as (λ b. P (cond b next best)) [ true ↦ All-head P next rest all | false ↦ here ])
        (All-tail P next rest all)

-- what holds of all choices holds of all sets of all combinations
All-combinations : (P : Set → Type 0) (lists : List (List Set)) → All (λ choices. All P choices) lists → All (λ sets. All P sets) (combinations lists)
All-combinations P [] all = All-cons (λ (sets : List Set). All P sets) [] [] (All-nil P) (All-nil (λ sets. All P sets))
All-combinations P (choices ∷ rest) all =
    let others = All-combinations P rest (All-tail (λ (choices : List Set). All P choices) choices rest all) in
    All-flat_map (λ sets. All P sets) (λ choice. map (λ sets. choice ∷ sets) (combinations rest)) choices
    (All-weaker P (λ choice. All (λ sets. All P sets) (map (λ sets. choice ∷ sets) (combinations rest)))
    (λ choice here. All-map (λ sets. All P sets) (λ sets. choice ∷ sets) (combinations rest)
    (All-weaker (λ (sets : List Set). All P sets) (λ sets. All P (choice ∷ sets)) (λ sets h. All-cons P choice sets here h) (combinations rest) others))
    choices (All-head (λ (choices : List Set). All P choices) choices rest all))

-- a set is one of an entity
abbrev IsOf : Touch → Set → Type 0
IsOf entity one = (one.class ≡ entity.class) × (one.id ≡ entity.id)

-- the edits that place an entity set that one alone
edits_are_of : (plan : PlanView) (entity : Touch) → All (λ sets. All (IsOf entity) sets) (placing_edits plan entity)
edits_are_of plan entity =
    All-combinations (IsOf entity) (null_choices plan entity)
    (All-map (λ choices. All (IsOf entity) choices) (choice_sets plan entity) (null_places (values_of plan entity))
    (λ k d h. All-map (IsOf entity) (choice_set entity _) (choices_of plan entity.class _) (λ l e i. (refl, refl))))

best_is_of : (score : PlanView → PlanScore) (plan : PlanView) (entity : Touch) (sets : List Set) → best_edit score plan entity ≡ Some sets → All (IsOf entity) sets
unfolding best_edit
best_is_of score plan entity sets best =
    best_holds (λ sets. All (IsOf entity) sets) (λ sets. score (applied plan sets)) (placing_edits plan entity) sets best (edits_are_of plan entity)

-- an edit of one entity leaves each other record
fact_of-applied_other : (plan : PlanView) (sets : List Set) (entity : Touch) (class id : ℕ) → All (IsOf entity) sets
    → (class ≡ entity.class → id ≡ entity.id → ⊥) → fact_of (applied plan sets) class id ≡ fact_of plan class id
unfolding applied
fact_of-applied_other plan [] entity class id all apart = refl
fact_of-applied_other plan (one ∷ sets) entity class id all apart =
    let is = All-head (IsOf entity) one sets all in
    fact_of-applied_other (with_value plan one.class one.id one.var one.value) sets entity class id (All-tail (IsOf entity) one sets all) apart
    ∙ fact_of-with_value_other plan one.class one.id one.var one.value class id (λ c i. apart (c ∙ is.0) (i ∙ is.1))

pub rest_awaits : RestAwaits
rest_awaits score plan entity rest sets awaits best =
    let all = best_is_of score plan entity sets best in
    record {
      different = λ i j d below within. awaits.different (suc i) (suc j) d (omega arith) (omega arith);
      each = λ k d within.
          let other = awaits.each (suc k) d (omega arith) in
          let apart = awaits.different 0 (suc k) d (omega arith) (omega arith) in
          ap (λ (found : Option Raw). option_map_or is_waiting found false)
          (fact_of-applied_other plan sets entity _ _ all (λ c i. apart (λ j. record { class = sym c j; id = sym i j }))) ∙ other;
    }

-- where a variable is set to what it holds its record stays
raw_idle : (raw : Raw) (var : ℕ) (value : Option ℕ) → slice_get raw.values var ≡ Some value → set_var var value raw ≡ raw
raw_idle raw var value at =
    let same : set raw.values var value ≡ raw.values = ap (set raw.values var) (sym (get_or_from_slice_get raw.values var value value at)) ∙ set-get_or raw.values var value in
    λ i. record raw { values = same i }

facts_idle : (facts : List Raw) (id var : ℕ) (value : Option ℕ) (raw : Raw) → AreIncreasing (ids_in facts) → record_with_id id facts ≡ Some raw
    → slice_get raw.values var ≡ Some value → map (changed_if id (set_var var value)) facts ≡ facts
facts_idle [] id var value raw up found at = refl
facts_idle (x ∷ xs) id var value raw up found at =
    elim (eqb x.id id) as (λ b. eqb x.id id ≡ b → cond b (Some x) (record_with_id id xs) ≡ Some raw
    → cond b (set_var var value x) x ∷ map (changed_if id (set_var var value)) xs ≡ x ∷ xs) [
      | true ↦ λ is found.
          let same : x ≡ raw = cc in
          let first : set_var var value x ≡ x = raw_idle x var value (subst (λ (r : Raw). slice_get r.values var ≡ Some value) (sym same) at) in
          let at_id : x.id ≡ id = same_eqb x.id id is in
          let rest : map (changed_if id (set_var var value)) xs ≡ xs =
          changed_none xs id (set_var var value) (λ k d h. let below = increasing_head x.id (ids_in xs) up k d h in omega arith) in
          λ i. first i ∷ rest i
      | false ↦ λ is found. ap (λ rest. x ∷ rest) (facts_idle xs id var value raw (increasing_tail x.id (ids_in xs) up) found at)
    ] refl found

same_values : (held value : Option ℕ) → not (option_eq nat_eq held value) ≡ false → held ≡ value
same_values None None h = refl
same_values None (Some v) h = cc
same_values (Some v) None h = cc
same_values (Some v) (Some w) h = ap (λ n. Some n) (same_eqb v w (is_true (eqb v w) h))
  where
    is_true : (b : Bool) → not b ≡ false → b ≡ true
    is_true true h = refl
    is_true false h = cc

-- a set that changes nothing leaves the plan
set_idle : (plan : PlanView) (one : Set) → IsPlan plan → is_legal_set plan one ≡ true → is_change plan one ≡ false
    → with_value plan one.class one.id one.var one.value ≡ plan
unfolding with_value
set_idle plan one sound legal idle =
    let h = holds plan one legal in
    let held : held_by plan one.class one.id one.var ≡ Some h.held = ap (option_and_then (λ (r : Raw). slice_get r.values one.var)) h.found ∙ h.at in
    let same : h.held ≡ one.value =
    same_values h.held one.value (sym (ap (λ (o : Option (Option ℕ)). option_map_or (λ v. not (option_eq nat_eq v one.value)) o false) held) ∙ idle) in
    let facts = facts_idle (class_of plan one.class).facts one.id one.var one.value h.raw (class_at plan one.class sound (legal_class plan one legal)).increasing
    h.found (h.at ∙ ap (λ v. Some v) same) in
    ap (λ facts. with_class plan one.class (with_facts (class_of plan one.class) facts)) facts
    ∙ ap (with_classes plan) (set-get_or plan.classes one.class no_class)

both_false_left : (a b : Bool) → (a || b) ≡ false → a ≡ false
both_false_left true b h = h
both_false_left false b h = refl

both_false_right : (a b : Bool) → (a || b) ≡ false → b ≡ false
both_false_right true b h = cc
both_false_right false b h = h

-- neither does an edit of such sets
edit_idle : (plan : PlanView) (sets : List Set) → IsPlan plan → is_legal plan sets ≡ true → list_any (is_change plan) sets ≡ false → applied plan sets ≡ plan
unfolding applied
edit_idle plan [] sound legal idle = refl
edit_idle plan (one ∷ sets) sound legal idle =
    ap (λ p. fold (λ (p : PlanView) (s : Set). with_value p s.class s.id s.var s.value) p sets)
    (set_idle plan one sound (both_left _ _ legal) (both_false_left _ _ idle))
    ∙ edit_idle plan sets sound (both_right _ _ legal) (both_false_right _ _ idle)

pub idle_edits_leave_the_plan : IdleEditsLeaveThePlan
idle_edits_leave_the_plan plan sets sound legal idle =
    edit_idle plan sets sound legal (ap (λ b. b && list_any (is_change plan) sets) (sym legal) ∙ idle)
