-- The records that sketches stand for.
use Rattle.std.specs.Prelude.{ℕ, ℤ, Bool, true, false, Option, List, [], map}
use Rattle.plan_facts.specs.declared.record.Raw.{Raw}
use Rattle.test_plans.specs.declared.facts.FactSketch.{FactSketch}
use Rattle.test_plans.specs.declared.facts.FactSketch.TheVariants.{Fact, Entity, Pinned}
use denote.Ref.{Bor}

-- a record with this id, these fields and these values, pinned or not
abbrev pub raw_with : ℕ → List ℤ → List (Option ℕ) → Bool → Raw
raw_with id fields values pinned = record { id = id; fields = fields; values = values; pinned = pinned }

-- the record of a sketch
abbrev pub raw_of : FactSketch → Raw
raw_of (Fact id fields) = raw_with id fields.now [] false
raw_of (Entity id fields values) = raw_with id fields.now values.now false
raw_of (Pinned id fields values) = raw_with id fields.now values.now true

-- the records of the sketches of each class
abbrev pub raws_of : List (Bor (List FactSketch)) → List (List Raw)
raws_of classes = map (λ sketches. map raw_of sketches.now) classes
