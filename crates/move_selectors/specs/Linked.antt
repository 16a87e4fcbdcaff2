-- Links that are found entity by entity.
use Rattle.std.specs.Prelude.{◌≡◌, ◌&&◌, ◌+◌, ◌<◌, ◌≤◌, ℕ, Bool, true, false, List, Option, Some, None, nat_eq, length, map, take, All, slice_get, slice_index}
use Rattle.std.specs.Option.{option_eq, option_flatten}
use Rattle.std.specs.HashMap.{HashMap, get}
use Rattle.plan_facts.specs.declared.record.Raw.{Raw}
use Rattle.move_selectors.specs.declared.links.Links.{Links}
use Rattle.move_selectors.specs.Pillars.{same_values, is_settled, pillars_of}
use Rattle.move_selectors.specs.Links.{LinksView, IsHead, values_at, is_same_at, is_settled_at}

-- the values of at most two variables
abbrev pub Key : Type 0
Key = Option ℕ × Option ℕ

-- the values as a key
abbrev pub key_of : List (Option ℕ) → Key
key_of values = (option_flatten (slice_get values 0), option_flatten (slice_get values 1))

-- the two keys are one
abbrev pub is_key : Key → Key → Bool
is_key one other = option_eq nat_eq one.0 other.0 && option_eq nat_eq one.1 other.1

-- the place that is noted for some values
abbrev pub place_in : {S : Type 0} → HashMap Key ℕ S → List (Option ℕ) → Option ℕ
place_in noted values = get is_key noted (key_of values)

-- each entity has a value for each of the variables, which are at most two
pub record AreShort (nullables : List Bool) (entities : List Raw) : Type 0 where
  pub few : length nullables ≤ 2
  pub values : All (λ raw. length raw.values ≡ length nullables) entities

-- of the entities up to one, the next one that holds what the one at a place does; past the end where there is none
pub record IsLink (entities : List Raw) (upto at next : ℕ) : Type 0 where
  pub later : at < next
  pub same : next < upto → is_same_at entities next at ≡ true
  pub past : upto ≤ next → next ≡ length entities
  pub none : (between : ℕ) → at < between → between < next → between < upto → is_same_at entities between at ≡ false

-- of the entities up to one, none holds these values from a place on
abbrev pub HoldNot : List Raw → List (Option ℕ) → ℕ → ℕ → Type 0
HoldNot entities values from upto =
    (at : ℕ) → from ≤ at → at < upto → same_values (values_at entities at) values ≡ false

-- of the entities up to one, the last that holds these values
pub record IsLastAt (entities : List Raw) (upto : ℕ) (values : List (Option ℕ)) (at : ℕ) : Type 0 where
  pub within : at < upto
  pub same : same_values (values_at entities at) values ≡ true
  pub none : HoldNot entities values (at + 1) upto

-- and where there is none
abbrev pub IsLast : List Raw → ℕ → List (Option ℕ) → Option ℕ → Type 0
IsLast entities upto values None = HoldNot entities values 0 upto
IsLast entities upto values (Some at) = IsLastAt entities upto values at

-- the links of the entities up to one: where pillars begin, who comes next, and the last member of each pillar so far
pub record IsLinked (nullables : List Bool) (entities : List Raw) (upto : ℕ)
    (heads next : List ℕ) (last : List (Option ℕ) → Option ℕ) : Type 0 where
  pub long : length next ≡ upto
  pub links : (at : ℕ) → at < upto → is_settled_at nullables entities at ≡ true →
      IsLink entities upto at (slice_index next at)
  pub lasts : (values : List (Option ℕ)) → length values ≡ length nullables → is_settled nullables values ≡ true
      → IsLast entities upto values (last values)
  pub pillars : map (values_at entities) heads ≡ pillars_of nullables (take upto entities)
  pub firsts : All (IsHead nullables entities) heads
  pub few : length heads ≤ upto

abbrev pub AreLinked : List Bool → List Raw → ℕ → Links → Type 0
AreLinked nullables entities upto links =
    IsLinked nullables entities upto links.heads.items links.next.items (place_in links.last)

-- the links as they are seen
abbrev pub links_view : Links → LinksView
links_view links = record { heads = links.heads.items; next = links.next.items }
