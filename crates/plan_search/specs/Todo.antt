-- What is to be placed, and in which order.
use Rattle.std.specs.Prelude.{ℤ, pos, Bool, false, not, ◌&&◌, is_none, List, filter, if◌then◌else◌}
use Rattle.std.specs.List.{list_any}
use Rattle.std.specs.Option.{option_map_or}
use Rattle.std.specs.Ordering.{nat_cmp, int_cmp, then_cmp, on, flip_args}
use Rattle.std.specs.declared.cmp.Ordering.{Ordering}
use Rattle.plan_facts.specs.declared.record.Raw.{Raw}
use Rattle.plan_facts.specs.Plan.{PlanView, fact_of, record_of}
use Rattle.plan_rules.specs.declared.rule.Harder.{Harder}
use Rattle.plan_rules.specs.Harder.{difficulty_of}
use Rattle.plan_rules.specs.Meaning.{Meaning}
use Rattle.plan_moves.specs.declared.edit.Touch.{Touch}
use Rattle.plan_moves.specs.Entities.{entities_of}
use Rattle.plan_search.specs.InOrder.{in_order}

-- a record waits to be placed where it isn't pinned and one of its variables is null, whether or not that may stay null
abbrev pub is_waiting : Raw → Bool
is_waiting raw = not raw.pinned && list_any is_none raw.values

-- an entity is to be placed
abbrev pub is_to_place : PlanView → Touch → Bool
is_to_place plan entity = option_map_or is_waiting (fact_of plan entity.class entity.id) false

-- the entities that are to be placed, in entity order
unfoldable pub entities_to_place : PlanView → List Touch
entities_to_place plan = filter (is_to_place plan) (entities_of plan)

-- how difficult an entity is: its class's harder key on the row of its resolved record, or 0 where the class has none
unfoldable pub entity_difficulty : Meaning → List Harder → PlanView → Touch → ℤ
entity_difficulty m harder plan entity =
    option_map_or (difficulty_of m harder entity.class) (record_of plan entity.class entity.id) (pos 0)

-- the order of first fit decreasing: by class, in a class the more difficult entity first, of two alike that of the lesser id
unfoldable pub harder_first : (Touch → ℤ) → Touch → Touch → Ordering
harder_first difficulty =
    then_cmp (on (λ t. t.class) nat_cmp) (then_cmp (on difficulty (flip_args int_cmp)) (on (λ t. t.id) nat_cmp))

-- what is to be placed in a plan, in its order: harder entities first, or else in entity order
unfoldable pub todo_by : Meaning → List Harder → Bool → PlanView → List Touch
todo_by m harder decreasing plan =
    if decreasing then in_order (harder_first (entity_difficulty m harder plan)) (entities_to_place plan)
    else entities_to_place plan
