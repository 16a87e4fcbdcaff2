-- The order in which entities are placed, as it is found: by their ranks.
use Rattle.std.specs.Prelude.{ℕ, ℤ, Bool, length, if◌then◌else◌}
use Rattle.std.specs.Ordering.{nat_cmp, int_cmp, then_cmp, on, flip_args}
use Rattle.std.specs.declared.cmp.Ordering.{Ordering}
use Rattle.plan_facts.specs.Plan.{PlanView}
use Rattle.plan_moves.specs.declared.edit.Touch.{Touch}
use Rattle.plan_search.specs.Todo.{entities_to_place}
use Rattle.construction.specs.declared.order.Rank.{Rank}

-- an entity with its difficulty
abbrev pub ranked : (Touch → ℤ) → Touch → Rank
ranked difficulty entity = record { entity = entity; difficulty = difficulty entity }

-- the order of ranked entities: by class, the more difficult one first, by id
unfoldable pub rank_order : Rank → Rank → Ordering
rank_order =
    then_cmp (on (λ rank. rank.entity.class) nat_cmp)
    (then_cmp (on (λ rank. rank.difficulty) (flip_args int_cmp)) (on (λ rank. rank.entity.id) nat_cmp))

-- at most so many closures are called for the order: one for each entity, and none for entity order
abbrev pub calls_of : Bool → PlanView → ℕ
calls_of decreasing plan = if decreasing then length (entities_to_place plan) else 0
