-- What the selectors pick from in a plan.
use Rattle.std.specs.Prelude.{◌≡◌, ℕ, IsTrue, List, map, filter, All, Option, None, IfSome, slice_index_or}
use Rattle.std.specs.List.{enumerate_from, flat_map, range_with_len}
use Rattle.plan_facts.specs.declared.record.Raw.{Raw}
use Rattle.plan_facts.specs.Plan.{PlanView, class_of}
use Rattle.plan_moves.specs.declared.edit.Set.{Set}
use Rattle.plan_moves.specs.declared.edit.Touch.{Touch}
use Rattle.plan_moves.specs.Edits.{is_legal, applied}
use Rattle.plan_moves.specs.Entities.{is_movable, touch_of, movable_in, movable_of, is_entity_class, entity_classes}
use Rattle.move_selectors.specs.Links.{LinksView, AreLinksOf, no_record}

-- the places of the movable ones among some records
abbrev pub movable_places : List Raw → List ℕ
movable_places facts = map (λ at. at.0) (filter (λ at. is_movable at.1) (enumerate_from 0 facts))

-- the records at some places
abbrev pub at_places : List Raw → List ℕ → List Raw
at_places facts places = map (λ place. slice_index_or facts place no_record) places

-- a class of entities: the places of the movable ones, and their pillars where these were found
pub record ClassPoolView : Type 0 where
  pub class : ℕ
  pub places : List ℕ
  pub links : Option LinksView

-- all movable entities, and the classes of entities
pub record PoolView : Type 0 where
  pub entities : List Touch
  pub classes : List ClassPoolView

-- the places and the pillars are those of the plan's class
pub record IsClassPoolOf (plan : PlanView) (pool : ClassPoolView) : Type 0 where
  pub places : pool.places ≡ movable_places (class_of plan pool.class).facts
  pub links : IfSome pool.links (AreLinksOf (class_of plan pool.class).nullables (movable_in plan pool.class))

-- the movable entities of a class
abbrev pub touches_of : PlanView → ℕ → List Touch
touches_of plan class = map (touch_of class) (movable_in plan class)

-- the pool is that of the plan
pub record IsPoolOf (plan : PlanView) (pool : PoolView) : Type 0 where
  pub entities : pool.entities ≡ movable_of plan
  pub classes : map (λ part. part.class) pool.classes ≡ entity_classes plan
  pub parts : All (IsClassPoolOf plan) pool.classes

-- the pool of a plan's classes up to one
pub record IsPoolUpTo (plan : PlanView) (upto : ℕ) (touches : List Touch) (classes : List ClassPoolView) : Type 0 where
  pub entities : touches ≡ flat_map (touches_of plan) (filter (is_entity_class plan) (range_with_len 0 upto))
  pub numbers : map (λ part. part.class) classes ≡ filter (is_entity_class plan) (range_with_len 0 upto)
  pub parts : All (IsClassPoolOf plan) classes

-- the class without its pillars
abbrev pub without_links : ClassPoolView → ClassPoolView
without_links part = record part { links = None }

-- after a legal edit of its plan, the pool is that of the new plan
abbrev pub FollowsEdits : PoolView → PoolView → Type 0
FollowsEdits old new =
    (plan : PlanView) (sets : List Set) → IsPoolOf plan old → IsTrue (is_legal plan sets) →
    IsPoolOf (applied plan sets) new
