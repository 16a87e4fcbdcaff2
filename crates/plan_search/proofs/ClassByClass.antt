-- What is listed of a plan's entities, class by class.
use Rattle.std.proofs.Common.{◌≡◌, ◌∙◌, ◌+◌, ◌==◌, ℕ, Bool, true, false, cond, not, nat_lt, List, [], ◌∷◌, ◌++◌, length, filter, map, refl, sym, ap, arith}
use Rattle.std.specs.List.{flat_map, range_with_len}
use Rattle.std.proofs.lemmas.Bool.Decides.{nat_tests}
use Rattle.std.proofs.lemmas.List.{append-nil}
use Rattle.std.proofs.lemmas.List.FromFn.{filter_of_map_range_with_len_more}
use Rattle.std.proofs.lemmas.Grind.{flat_map-append}
use Rattle.plan_facts.specs.Plan.{PlanView, class_of}
use Rattle.plan_moves.specs.Entities.{entity_classes, is_entity_class}

-- the entity classes among the first ones
abbrev pub classes_below : PlanView → ℕ → List ℕ
classes_below plan k = filter (is_entity_class plan) (range_with_len 0 k)

-- what is listed of the entity classes among the first ones
abbrev pub listed_below : {A : Type 0} → (ℕ → List A) → PlanView → ℕ → List A
listed_below f plan k = flat_map f (classes_below plan k)

-- one class more
classes_below-more : (plan : PlanView) (k : ℕ) → classes_below plan (k + 1) ≡ classes_below plan k ++ cond (is_entity_class plan k) (k ∷ []) []
classes_below-more plan k =
    sym (same (range_with_len 0 (k + 1)) (k + 1)) ∙ filter_of_map_range_with_len_more (is_entity_class plan) (λ n. n) 0 k k (omega arith)
    ∙ ap (λ ns. filter (is_entity_class plan) ns ++ cond (is_entity_class plan k) (k ∷ []) []) (map_same (range_with_len 0 k))
  where
    map_same : (ns : List ℕ) → map (λ n. n) ns ≡ ns
    map_same [] = refl
    map_same (n ∷ ns) = ap (λ rest. n ∷ rest) (map_same ns)

    same : (ns : List ℕ) (n : ℕ) → filter (is_entity_class plan) (map (λ n. n) ns) ≡ filter (is_entity_class plan) ns
    same ns n = ap (filter (is_entity_class plan)) (map_same ns)

-- a class with variables more
pub listed_below-some : {A : Type 0} (f : ℕ → List A) (plan : PlanView) (k : ℕ) → is_entity_class plan k ≡ true
    → listed_below f plan (k + 1) ≡ listed_below f plan k ++ f k
listed_below-some f plan k is =
    ap (flat_map f) (classes_below-more plan k ∙ ap (λ b. classes_below plan k ++ cond b (k ∷ []) []) is)
    ∙ flat_map-append f (classes_below plan k) (k ∷ []) ∙ ap (λ zs. listed_below f plan k ++ zs) (append-nil (f k))

-- a class without variables more
pub listed_below-none : {A : Type 0} (f : ℕ → List A) (plan : PlanView) (k : ℕ) → is_entity_class plan k ≡ false
    → listed_below f plan (k + 1) ≡ listed_below f plan k
listed_below-none f plan k is =
    ap (flat_map f) (classes_below-more plan k ∙ ap (λ b. classes_below plan k ++ cond b (k ∷ []) []) is ∙ append-nil (classes_below plan k))

-- all classes
pub listed_below-all : {A : Type 0} (f : ℕ → List A) (plan : PlanView) (k : ℕ) → k ≡ length plan.classes
    → listed_below f plan k ≡ flat_map f (entity_classes plan)
unfolding entity_classes
listed_below-all f plan k is = ap (λ n. flat_map f (filter (is_entity_class plan) (range_with_len 0 n))) is

-- a class has variables where its list of value classes isn't empty
pub entity_class-is : (plan : PlanView) (class : ℕ) (ranges : List ℕ) (empty : Bool) → ranges ≡ (class_of plan class).ranges
    → empty ≡ (length ranges == 0) → is_entity_class plan class ≡ not empty
entity_class-is plan class ranges empty are is =
    ap (λ (rs : List ℕ). nat_lt 0 (length rs)) (sym are) ∙ some ranges ∙ ap not (sym is)
  where
    some : (rs : List ℕ) → nat_lt 0 (length rs) ≡ not (length rs == 0)
    some [] = refl
    some (r ∷ rs) = grind (arith, nat_tests)
