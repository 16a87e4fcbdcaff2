-- A plan as contracts see it, and what can be read off it.
use Rattle.std.specs.Prelude.{◌≡◌, ◌==◌, ◌+◌, ◌<◌, ◌≤◌, ◌&&◌, not, ℕ, ℤ, pos, neg_ℤ, ◌≤ℤ◌, Bool, true, false, IsTrue, Option, Some, None, is_none, is_some, option_map, List, [], length, map, zip, find, sum_by, count_by, All, AllPairs, slice_index, slice_index_or}
use Rattle.std.specs.List.{AllZip}
use Rattle.std.specs.Option.{option_map_or}
use Rattle.plan_facts.specs.Limits.{fact_limit, field_limit}
use Rattle.plan_facts.specs.declared.record.Raw.{Raw}
use Rattle.plan_facts.specs.declared.record.Rec.{Rec}
use Rattle.plan_facts.specs.declared.record.Value.{Value}

-- a class of a plan: how many fields it has, the value class of each variable and whether it may stay null, its live records,
-- and the greatest id ever used
pub record ClassView : Type 0 where
  pub fields : ℕ
  pub ranges : List ℕ
  pub nullables : List Bool
  pub facts : List Raw
  pub greatest : ℕ

-- a plan: its classes, and how many facts were ever made
pub record PlanView : Type 0 where
  pub classes : List ClassView
  pub made : ℕ

-- the plan of these classes
abbrev pub plan_with : List ClassView → ℕ → PlanView
plan_with classes made = record { classes = classes; made = made }

-- a class of so many fields, these variables, these records and this greatest id
abbrev pub view_of : ℕ → List ℕ → List Bool → List Raw → ℕ → ClassView
view_of fields ranges nullables facts greatest =
    record { fields = fields; ranges = ranges; nullables = nullables; facts = facts; greatest = greatest }

-- a class with nothing in it
abbrev pub no_class : ClassView
no_class = view_of 0 [] [] [] 0

-- the class with this number; where there is none, one with nothing in it
abbrev pub class_of : PlanView → ℕ → ClassView
class_of plan class = slice_index_or plan.classes class no_class

-- the record of a list that has this id
abbrev pub record_with_id : ℕ → List Raw → Option Raw
record_with_id id facts = find (λ raw. raw.id == id) facts

-- the live record of a class with this id
abbrev pub fact_of : PlanView → ℕ → ℕ → Option Raw
fact_of plan class id = record_with_id id (class_of plan class).facts

-- whether a class has a live record with this id
abbrev pub is_live : PlanView → ℕ → ℕ → Bool
is_live plan class id = is_some (fact_of plan class id)

-- the ids of some records
abbrev pub ids_in : List Raw → List ℕ
ids_in facts = map (λ raw. raw.id) facts

-- each number is below all later ones
abbrev pub AreIncreasing : List ℕ → Type 0
AreIncreasing ids = AllPairs (λ one other. one < other) ids

-- a place of some numbers at which this one stands
abbrev pub IsPlaceIn : List ℕ → ℕ → ℕ → Type 0
IsPlaceIn ids id place = (place < length ids) × (slice_index ids place ≡ id)

-- a place of some records at which the one with this id stands
abbrev pub IsPlaceOf : List Raw → ℕ → ℕ → Type 0
IsPlaceOf facts id place = (place < length facts) × (slice_index (ids_in facts) place ≡ id)

-- the live ids of a class
abbrev pub ids_of : PlanView → ℕ → List ℕ
ids_of plan class = ids_in (class_of plan class).facts

-- the value class of a variable
abbrev pub range_of : PlanView → ℕ → ℕ → ℕ
range_of plan class var = slice_index (class_of plan class).ranges var

-- the id that the next fact of a class gets
abbrev pub next_id_of : PlanView → ℕ → ℕ
next_id_of plan class = (class_of plan class).greatest + 1

-- whether a variable may stay null
abbrev pub is_nullable : PlanView → ℕ → ℕ → Bool
is_nullable plan class var = slice_index_or (class_of plan class).nullables var false

-- whether there is a live record with this id that is pinned
abbrev pub is_pinned : PlanView → ℕ → ℕ → Bool
is_pinned plan class id = option_map_or (λ raw. raw.pinned) (fact_of plan class id) false

-- a value that is null where its variable may not stay null
abbrev pub is_missing : Bool × Option ℕ → Bool
is_missing pair = not pair.0 && is_none pair.1

-- how many values of a record are missing, where these variables may stay null
abbrev pub missing_in : List Bool → List (Option ℕ) → ℕ
missing_in nullables values = count_by is_missing (zip nullables values)

-- how many values of some records are missing
abbrev pub nulls_in : List Bool → List Raw → ℕ
nulls_in nullables facts = sum_by (λ raw. missing_in nullables raw.values) facts

-- how many values of all entities are missing
abbrev pub unplaced_of : PlanView → ℕ
unplaced_of plan = sum_by (λ class. nulls_in class.nullables class.facts) plan.classes

-- a fact as a value: its id and fields
abbrev pub value_of : Raw → Value
value_of raw = record { id = raw.id; fields = raw.fields }

-- what a variable holds: null, or the fact of its value class
abbrev pub held_value : PlanView → ℕ → Option ℕ → Option Value
held_value plan range None = None
held_value plan range (Some id) = option_map value_of (fact_of plan range id)

-- what the variables with these value classes hold
abbrev pub held_values : PlanView → List ℕ → List (Option ℕ) → List (Option Value)
held_values plan ranges values = map (λ pair. held_value plan pair.0 pair.1) (zip ranges values)

-- a record with what each of its variables holds in place of the id
abbrev pub resolved : PlanView → ℕ → Raw → Rec
resolved plan class raw =
    record {
      class = class;
      id = raw.id;
      fields = raw.fields;
      planned = held_values plan (class_of plan class).ranges raw.values;
    }

-- the resolved record of a class with this id
unfoldable pub record_of : PlanView → ℕ → ℕ → Option Rec
record_of plan class id = option_map (resolved plan class) (fact_of plan class id)

-- the resolved records of a class, in the order of their ids
unfoldable pub records_of : PlanView → ℕ → List Rec
records_of plan class = map (resolved plan class) (class_of plan class).facts

-- null, or the id of a record of the value class that is live
abbrev pub is_value_among : (ℕ → ℕ → Bool) → ℕ → Option ℕ → Bool
is_value_among live range None = true
is_value_among live range (Some id) = live range id

-- null, or the id of a live record of the plan's value class
abbrev pub is_value_of : PlanView → ℕ → Option ℕ → Bool
is_value_of plan range value = is_value_among (is_live plan) range value

-- a field's number is from -10^9 to 10^9
abbrev pub IsFieldNumber : ℤ → Type 0
IsFieldNumber number = (neg_ℤ (pos field_limit) ≤ℤ number) × (number ≤ℤ pos field_limit)

-- a record fits its class: a number within the limits for each field, for each variable null or a live record of its class
pub record IsRecordOf (plan : PlanView) (class : ClassView) (raw : Raw) : Type 0 where
  pub fields : length raw.fields ≡ class.fields
  pub numbers : All IsFieldNumber raw.fields
  pub values : AllZip (λ range value. IsTrue (is_value_of plan range value)) class.ranges raw.values

-- a class of the plan has no variables, so that its facts may be values
pub record IsValueClass (plan : PlanView) (range : ℕ) : Type 0 where
  pub there : range < length plan.classes
  pub plain : (class_of plan range).ranges ≡ []

-- a class of a plan: its ids increase, from 1 to the greatest one ever used, and each record fits
pub record IsClassOf (plan : PlanView) (class : ClassView) : Type 0 where
  pub few_fields : class.fields ≤ 16
  pub few_variables : length class.ranges ≤ 2
  pub ranges : All (IsValueClass plan) class.ranges
  pub nullables : length class.nullables ≡ length class.ranges
  pub increasing : AreIncreasing (ids_in class.facts)
  pub ids : All (λ id. (1 ≤ id) × (id ≤ class.greatest)) (ids_in class.facts)
  pub greatest : class.greatest ≤ field_limit + plan.made
  pub records : All (IsRecordOf plan class) class.facts

-- this is the class with this number, as the plan says
abbrev pub IsClassAt : PlanView → ℕ → ClassView → Type 0
IsClassAt plan class view = (view ≡ class_of plan class) × IsClassOf plan view

-- what is so of every plan
pub record IsPlan (plan : PlanView) : Type 0 where
  pub few_classes : length plan.classes ≤ 16
  pub classes : All (IsClassOf plan) plan.classes
  pub live : sum_by (λ class. length class.facts) plan.classes ≤ plan.made
  pub made : plan.made ≤ fact_limit

-- a plan, and the count of its missing values that is kept
abbrev pub IsCounted : PlanView → ℕ → Type 0
IsCounted plan unplaced = IsPlan plan × (unplaced ≡ unplaced_of plan)
