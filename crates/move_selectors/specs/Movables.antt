-- The movable entities of a class, as they are read.
use Rattle.std.specs.Prelude.{◌≡◌, ◌<◌, ◌≤◌, ◌^◌, ℕ, List, All, length, slice_index_or}
use Rattle.plan_facts.specs.declared.record.Raw.{Raw}
use Rattle.plan_facts.specs.Plan.{PlanView, class_of}
use Rattle.plan_moves.specs.Entities.{movable_in}
use Rattle.move_selectors.specs.declared.movables.Movables.{Movables}
use Rattle.move_selectors.specs.Links.{AreLinksOf, no_record}
use Rattle.move_selectors.specs.Linked.{links_view}
use Rattle.move_selectors.specs.Pool.{at_places}

-- the entities, in the order of their ids
abbrev pub entities_in : Movables → List Raw
entities_in m = at_places m.facts.now m.places.now

-- the entity at a place
abbrev pub entity_in : Movables → ℕ → Raw
entity_in m at = slice_index_or (entities_in m) at no_record

-- the places are places of facts, and fewer than 2^32
pub record AreThere (m : Movables) : Type 0 where
  pub within : All (λ place. place < length m.facts.now) m.places.now
  pub few : length m.places.now < 2 ^ 32

-- they are the movable entities of the plan's class
pub record AreOf (plan : PlanView) (m : Movables) : Type 0 where
  pub nullables : m.nullables.now ≡ (class_of plan m.class).nullables
  pub entities : entities_in m ≡ movable_in plan m.class
  pub there : AreThere m
  pub short : All (λ raw. length raw.values ≤ 2) (entities_in m)

-- their pillars were found
abbrev pub HaveLinks : Movables → Type 0
HaveLinks m = AreLinksOf m.nullables.now (entities_in m) (links_view m.links.now)
