-- The plans that changes of a plan which are taken back lead to.
use Rattle.std.specs.Prelude.{◌≡◌, ◌<◌, ◌≤◌, ◌-◌, ◌==◌, ◌&&◌, nat_lt, length, take, ℕ, ℤ, Bool, false, Option, Some, None, List, [], ◌∷◌, map, filter, zip, count_by, if◌then◌else◌, slice_set}
use Rattle.std.specs.List.{insert, list_any}
use Rattle.plan_facts.specs.declared.record.Raw.{Raw}
use Rattle.plan_facts.specs.Plan.{IsPlan, PlanView, ClassView, class_of, fact_of, ids_in}
use Rattle.plan_facts.specs.PlanChanges.{with_class, with_fact, with_record, without_fact}

-- a record like another one in all but its id
abbrev pub record_like : Raw → Raw → Raw
record_like raw was = record raw { id = was.id }

-- a plan with a record in the place of the one with its id
unfoldable pub with_raw : PlanView → ℕ → Raw → PlanView
with_raw plan class raw = with_class plan class (with_record (class_of plan class) raw.id (record_like raw))

-- a class as if its last record had never been made
abbrev pub without_last : ClassView → ClassView
without_last view =
    record view { facts = take (length view.facts - 1) view.facts; greatest = view.greatest - 1 }

-- a plan as if the last fact of a class had never been made
unfoldable pub without_newest : PlanView → ℕ → PlanView
without_newest plan class =
    record {
      classes = slice_set plan.classes class (without_last (class_of plan class));
      made = plan.made - 1;
    }

-- the last fact that was made of a plan is one of this class
pub record WasMadeLast (plan : PlanView) (class : ℕ) : Type 0 where
  pub before : PlanView
  pub fields : List ℤ
  pub values : List (Option ℕ)
  pub sound : IsPlan before
  pub there : class < length before.classes
  pub is : plan ≡ with_fact before class fields values

-- whether a variable, with this value class, holds the fact of this class with this id
abbrev pub holds : ℕ → ℕ → ℕ → Option ℕ → Bool
holds class id range None = false
holds class id range (Some held) = (range == class) && (held == id)

-- whether a variable of a record, with these value classes, holds it
abbrev pub record_holds : ℕ → ℕ → List ℕ → Raw → Bool
record_holds class id ranges raw = list_any (λ pair. holds class id pair.0 pair.1) (zip ranges raw.values)

-- the record, if it holds it
abbrev pub holder_of : ℕ → ℕ → List ℕ → Raw → List Raw
holder_of class id ranges raw = if record_holds class id ranges raw then raw ∷ [] else []

-- the records of a class that hold it
abbrev pub holders_in : ℕ → ℕ → ClassView → List Raw
holders_in class id view = filter (record_holds class id view.ranges) view.facts

-- records with others in the places of those with their ids
abbrev pub records_put : List Raw → List Raw → List Raw
records_put facts [] = facts
records_put facts (raw ∷ raws) =
    map (λ was. if was.id == raw.id then record_like raw was else was) (records_put facts raws)

-- a class with records put in the places of those with their ids
abbrev pub with_records : ClassView → List Raw → ClassView
with_records view raws = record view { facts = records_put view.facts raws }

-- classes, the first of them with records put in the places of those with their ids, one list for each
abbrev pub classes_put : List ClassView → List (List Raw) → List ClassView
classes_put [] held = []
classes_put (view ∷ views) [] = view ∷ views
classes_put (view ∷ views) (raws ∷ held) = with_records view raws ∷ classes_put views held

-- there are no ids and no records
abbrev pub AreEmpty : List ℕ → List Raw → Type 0
AreEmpty ids facts = (ids ≡ []) × (facts ≡ [])

-- how many ids are lower than this one
abbrev pub lower_than : ℕ → List ℕ → ℕ
lower_than id ids = count_by (λ other. nat_lt other id) ids

-- a class with one more record, behind those with lower ids
abbrev pub with_back : ClassView → Raw → ClassView
with_back view raw =
    record view { facts = insert view.facts (lower_than raw.id (ids_in view.facts)) raw }

-- what puts a fact back: its class, its record, for each class the records that hold it, and for how many records of its
-- class there is room
pub record RemovalView : Type 0 where
  pub class : ℕ
  pub raw : Raw
  pub held : List (List Raw)
  pub room : ℕ

-- what puts a fact back, of these parts
abbrev pub removal_view : ℕ → Raw → List (List Raw) → ℕ → RemovalView
removal_view class raw held room = record { class = class; raw = raw; held = held; room = room }

-- this puts the fact of a class with this id back once the plan is without it
pub record PutsBack (removal : RemovalView) (plan : PlanView) (class id : ℕ) : Type 0 where
  pub own : removal.class ≡ class
  pub found : fact_of plan class id ≡ Some removal.raw
  pub held : removal.held ≡ map (holders_in class id) plan.classes
  pub room : length (class_of plan class).facts ≤ removal.room

-- a plan is without a fact of the plan before, and this puts it back
pub record IsRemoved (removal : RemovalView) (before now : PlanView) : Type 0 where
  pub id : ℕ
  pub sound : IsPlan before
  pub puts : PutsBack removal before removal.class id
  pub is : now ≡ without_fact before removal.class id
