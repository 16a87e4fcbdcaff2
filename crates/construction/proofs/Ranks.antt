-- Entities that are sorted by their ranks stand in the order of first fit decreasing.
use Rattle.std.proofs.Common.{◌≡◌, ◌∙◌, ◌+◌, ℕ, ℤ, pos, Bool, true, false, cond, Option, Some, None, List, [], ◌∷◌, map, get_or, refl, sym, ap, subst, arith, All}
use Rattle.std.specs.Prelude.{IsPermutation, IsSorted}
use Rattle.std.specs.Option.{option_map_or}
use Rattle.std.specs.Ordering.{is_lt}
use Rattle.std.specs.Cmp.{IsStrictWeakOrder, back_total, int_cmp_total, nat_cmp_total, on_total, then_total}
use Rattle.std.proofs.lemmas.List.{get_or-map, length-map}
use Rattle.std.proofs.lemmas.List.Elements.{All-map}
use Rattle.std.proofs.lemmas.List.MinMax.{ranks_by}
use Rattle.std.proofs.lemmas.List.Sorted.{All-permutation, IsPermutation-map}
use Rattle.plan_facts.specs.declared.record.Rec.{Rec}
use Rattle.plan_facts.specs.Plan.{PlanView, record_of}
use Rattle.plan_rules.specs.declared.rule.Harder.{Harder}
use Rattle.plan_rules.specs.Harder.{difficulty_of, harder_key}
use Rattle.plan_rules.specs.Meaning.{Meaning}
use Rattle.plan_rules.specs.Rows.{row_of}
use Rattle.plan_moves.specs.declared.edit.Touch.{Touch}
use Rattle.plan_search.specs.InOrder.{in_order}
use Rattle.plan_search.specs.Todo.{entities_to_place, entity_difficulty, harder_first, todo_by}
use Rattle.plan_search.proofs.HarderFirst.{harder_first_apart, harder_first_total}
use Rattle.plan_search.proofs.InOrderLaws.{sorted-in_order}
use Rattle.construction.specs.declared.order.Rank.{Rank}
use Rattle.construction.specs.Order.{rank_order, ranked}

-- the order of ranks is total
pub rank_order_weak : IsStrictWeakOrder (λ one other. is_lt (rank_order one other))
unfolding rank_order
rank_order_weak =
    ranks_by
    (then_total (on_total (λ (rank : Rank). rank.entity.class) nat_cmp_total)
    (then_total (on_total (λ (rank : Rank). rank.difficulty) (back_total int_cmp_total)) (on_total (λ (rank : Rank). rank.entity.id) nat_cmp_total)))
    (λ (rank : Rank). rank)

-- ranked entities compare as the entities do
ranked_order : (difficulty : Touch → ℤ) (one other : Touch) → rank_order (ranked difficulty one) (ranked difficulty other) ≡ harder_first difficulty one other
unfolding rank_order harder_first
ranked_order difficulty one other = refl

entities-ranked : (difficulty : Touch → ℤ) (entities : List Touch) → map (λ (rank : Rank). rank.entity) (map (ranked difficulty) entities) ≡ entities
entities-ranked difficulty [] = refl
entities-ranked difficulty (entity ∷ entities) = ap (λ zs. entity ∷ zs) (entities-ranked difficulty entities)

-- the entities of sorted ranks are the entities in order
pub ranks_in_order : (difficulty : Touch → ℤ) (entities : List Touch) (ranks sorted : List Rank) → ranks ≡ map (ranked difficulty) entities
    → IsPermutation ranks sorted → IsSorted rank_order sorted → map (λ (rank : Rank). rank.entity) sorted ≡ in_order (harder_first difficulty) entities
ranks_in_order difficulty entities ranks sorted are moved order =
    let entity : Rank → Touch = λ rank. rank.entity in
    let P : Rank → Type 0 = λ rank. rank ≡ ranked difficulty rank.entity in
    let all : All P sorted =
    All-permutation P ranks sorted moved (subst (All P) (sym are) (All-map P (ranked difficulty) entities (λ k d h. refl))) in
    let same : IsPermutation entities (map entity sorted) =
    subst (λ es. IsPermutation es (map entity sorted)) (ap (map entity) are ∙ entities-ranked difficulty entities) (IsPermutation-map entity ranks sorted moved) in
    sorted-in_order (harder_first difficulty) (harder_first_total difficulty) (harder_first_apart difficulty) entities (map entity sorted) same
    (λ k d low within.
    let first : Rank = record { entity = d; difficulty = difficulty d } in
    let long = length-map sorted entity in
    let one = get_or sorted (k + 1) first in
    let other = get_or sorted k first in
    let one_is = all (k + 1) first (omega (arith, long)) in
    let other_is = all k first (omega (arith, long)) in
    let one_at = get_or-map entity sorted (k + 1) first d (omega (arith, long)) in
    let other_at = get_or-map entity sorted k first d (omega (arith, long)) in
    (λ i. is_lt (harder_first difficulty (one_at i) (other_at i)))
    ∙ ap is_lt (sym (ranked_order difficulty one.entity other.entity))
    ∙ (λ i. is_lt (rank_order (sym one_is i) (sym other_is i)))
    ∙ order k first low (omega (arith, long)))

-- an entity whose class has no harder key
pub difficulty-none : (m : Meaning) (harder : List Harder) (plan : PlanView) (entity : Touch) → harder_key harder entity.class ≡ None
    → pos 0 ≡ entity_difficulty m harder plan entity
unfolding entity_difficulty
difficulty-none m harder plan entity none =
    sym (ap (λ (key : Option ℕ). option_map_or (λ (rec : Rec). option_map_or (λ k. m.key_of k (row_of rec)) key (pos 0)) (record_of plan entity.class entity.id) (pos 0)) none
    ∙ zero (record_of plan entity.class entity.id))
  where
    zero : (found : Option Rec) → option_map_or (λ (rec : Rec). pos 0) found (pos 0) ≡ pos 0
    zero None = refl
    zero (Some rec) = refl

-- an entity that isn't live
pub difficulty-gone : (m : Meaning) (harder : List Harder) (plan : PlanView) (entity : Touch) → record_of plan entity.class entity.id ≡ None
    → pos 0 ≡ entity_difficulty m harder plan entity
unfolding entity_difficulty
difficulty-gone m harder plan entity none =
    sym (ap (λ (found : Option Rec). option_map_or (difficulty_of m harder entity.class) found (pos 0)) none)

-- an entity's harder key on its row
pub difficulty-is : (m : Meaning) (harder : List Harder) (plan : PlanView) (entity : Touch) (key : ℕ) (rec : Rec) → harder_key harder entity.class ≡ Some key
    → record_of plan entity.class entity.id ≡ Some rec → m.key_of key (row_of rec) ≡ entity_difficulty m harder plan entity
unfolding entity_difficulty
difficulty-is m harder plan entity key rec named found =
    sym (ap (λ (r : Option Rec). option_map_or (difficulty_of m harder entity.class) r (pos 0)) found
    ∙ ap (λ (k : Option ℕ). option_map_or (λ k. m.key_of k (row_of rec)) k (pos 0)) named)

-- the order is that of the entities, or that of harder ones first
pub todo_by-first : (m : Meaning) (harder : List Harder) (decreasing : Bool) (plan : PlanView) → decreasing ≡ false → entities_to_place plan ≡ todo_by m harder decreasing plan
unfolding todo_by
todo_by-first m harder decreasing plan is =
    sym (ap (λ b. cond b (in_order (harder_first (entity_difficulty m harder plan)) (entities_to_place plan)) (entities_to_place plan)) is)

pub todo_by-harder : (m : Meaning) (harder : List Harder) (decreasing : Bool) (plan : PlanView) → decreasing ≡ true
    → in_order (harder_first (entity_difficulty m harder plan)) (entities_to_place plan) ≡ todo_by m harder decreasing plan
unfolding todo_by
todo_by-harder m harder decreasing plan is =
    sym (ap (λ b. cond b (in_order (harder_first (entity_difficulty m harder plan)) (entities_to_place plan)) (entities_to_place plan)) is)
