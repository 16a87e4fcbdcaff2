-- How the pillars of some entities hang together: where each begins, and which member comes next.
use Rattle.std.specs.Prelude.{◌≡◌, ◌<◌, ◌≤◌, ℕ, Bool, true, false, List, [], Option, length, map, All, slice_index, slice_index_or}
use Rattle.plan_facts.specs.declared.record.Raw.{Raw}
use Rattle.move_selectors.specs.Pillars.{same_values, is_settled, pillars_of}

-- for each pillar the place of its first member; for each entity the place of the next member of its pillar
pub record LinksView : Type 0 where
  pub heads : List ℕ
  pub next : List ℕ

-- a record with nothing in it
abbrev pub no_record : Raw
no_record = record { id = 0; fields = []; values = []; pinned = false }

-- what the entity at a place holds
abbrev pub values_at : List Raw → ℕ → List (Option ℕ)
values_at entities at = (slice_index_or entities at no_record).values

-- the entities at two places hold the same
abbrev pub is_same_at : List Raw → ℕ → ℕ → Bool
is_same_at entities one other = same_values (values_at entities one) (values_at entities other)

-- the entity at a place may be a member of a pillar
abbrev pub is_settled_at : List Bool → List Raw → ℕ → Bool
is_settled_at nullables entities at = is_settled nullables (values_at entities at)

-- the next place at which an entity holds what the one at a place does; past the end where there is none
pub record IsNext (entities : List Raw) (at next : ℕ) : Type 0 where
  pub later : at < next
  pub within : next ≤ length entities
  pub same : next < length entities → is_same_at entities next at ≡ true
  pub none : (between : ℕ) → at < between → between < next → is_same_at entities between at ≡ false

-- an entity that is the first of its pillar
pub record IsHead (nullables : List Bool) (entities : List Raw) (at : ℕ) : Type 0 where
  pub within : at < length entities
  pub settled : is_settled_at nullables entities at ≡ true
  pub first : (before : ℕ) → before < at → is_same_at entities before at ≡ false

-- the pillars of some entities, whose variables may stay null where told, hang together so
pub record AreLinksOf (nullables : List Bool) (entities : List Raw) (links : LinksView) : Type 0 where
  pub long : length links.next ≡ length entities
  pub next : (at : ℕ) → at < length entities → is_settled_at nullables entities at ≡ true →
      IsNext entities at (slice_index links.next at)
  pub heads : map (values_at entities) links.heads ≡ pillars_of nullables entities
  pub firsts : All (IsHead nullables entities) links.heads
  pub few : length links.heads ≤ length entities
