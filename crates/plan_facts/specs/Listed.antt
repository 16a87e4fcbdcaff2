-- The ids of lists of records, class by class.
use Rattle.std.specs.Prelude.{◌≡◌, ◌≤◌, ℕ, Bool, false, sum_by, length, nat_eq, List, slice_get, is_some}
use Rattle.std.specs.List.{list_any, AllZip}
use Rattle.std.specs.Option.{option_map_or}
use Rattle.plan_facts.specs.Limits.{fact_limit}
use Rattle.std.specs.HashSet.{HashSet}
use Rattle.std.specs.declared.hash.FoldHasher.{FoldHasher}
use Rattle.std.specs.declared.hash.BuildHasherDefault.{BuildHasherDefault}
use Rattle.plan_facts.specs.declared.record.Raw.{Raw}
use Rattle.plan_facts.specs.Plan.{record_with_id}

-- a set of ids
abbrev pub Ids : Type 0
Ids = HashSet ℕ (BuildHasherDefault FoldHasher)

-- whether a set has an id
abbrev pub has_id : Ids → ℕ → Bool
has_id ids id = list_any (nat_eq id) ids.keys

-- whether the set of a class has an id
abbrev pub is_listed : List Ids → ℕ → ℕ → Bool
is_listed sets class id = option_map_or (λ ids. has_id ids id) (slice_get sets class) false

-- a set has just the ids of these records
abbrev pub HasIds : List Raw → Ids → Type 0
HasIds raws ids = (id : ℕ) → has_id ids id ≡ is_some (record_with_id id raws)

-- a number of records: as many as the lists have, and no more than may be made
abbrev pub IsFewOf : List (List Raw) → ℕ → Type 0
IsFewOf lists count = (count ≡ sum_by length lists) × (count ≤ fact_limit)

-- each class's set has just the ids of its records
abbrev pub HaveIds : List (List Raw) → List Ids → Type 0
HaveIds lists sets = AllZip HasIds lists sets
