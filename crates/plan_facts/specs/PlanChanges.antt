-- The plans that the calls of a plan lead to.
use Rattle.std.specs.Prelude.{◌≡◌, ◌==◌, ◌+◌, slice_index_or, ◌&&◌, not, false, ℕ, ℤ, Option, Some, None, option_map, List, [], ◌∷◌, ◌++◌, map, filter, zip, if◌then◌else◌, slice_set}
use Rattle.plan_facts.specs.declared.record.Raw.{Raw}
use Rattle.plan_facts.specs.declared.record.Rec.{Rec}
use Rattle.plan_facts.specs.declared.record.Value.{Value}
use Rattle.plan_facts.specs.Plan.{PlanView, ClassView, class_of, next_id_of}

-- a plan with another class at this number
abbrev pub with_class : PlanView → ℕ → ClassView → PlanView
with_class plan class view = record plan { classes = slice_set plan.classes class view }

-- a class with its record of this id changed
abbrev pub with_record : ClassView → ℕ → (Raw → Raw) → ClassView
with_record class id change = record class { facts = map (λ raw. if raw.id == id then change raw else raw) class.facts }

-- a record with one of its variables set
abbrev pub raw_with_value : ℕ → Option ℕ → Raw → Raw
raw_with_value var value raw = record raw { values = slice_set raw.values var value }

-- a record with one of its fields set
abbrev pub raw_with_field : ℕ → ℤ → Raw → Raw
raw_with_field field number raw = record raw { fields = slice_set raw.fields field number }

-- a variable of a record holds this value
abbrev pub HasValue : ℕ → Option ℕ → Raw → Type 0
HasValue var held raw = held ≡ slice_index_or raw.values var held

-- a class with one more record, whose id is the greatest
abbrev pub with_next : ClassView → Raw → ClassView
with_next view raw = record view { facts = view.facts ++ raw ∷ []; greatest = raw.id }

-- a plan with one variable of one record set
unfoldable pub with_value : PlanView → ℕ → ℕ → ℕ → Option ℕ → PlanView
with_value plan class id var value =
    with_class plan class (with_record (class_of plan class) id (raw_with_value var value))

-- a plan with one field of one record set
unfoldable pub with_field : PlanView → ℕ → ℕ → ℕ → ℤ → PlanView
with_field plan class id field number =
    with_class plan class (with_record (class_of plan class) id (raw_with_field field number))

-- a value once a field of a fact is set: changed where it is that fact
abbrev pub value_with_field : ℕ → ℕ → ℕ → ℤ → ℕ → Value → Value
value_with_field class id field number range value =
    if (range == class) && (value.id == id) then record value { fields = slice_set value.fields field number }
    else value

-- a resolved record with one of its variables set
abbrev pub rec_with_value : ℕ → Option Value → Rec → Rec
rec_with_value var value rec = record rec { planned = slice_set rec.planned var value }

-- a resolved record, whose variables have these value classes, once a field of a fact is set
abbrev pub rec_with_field : ℕ → ℕ → ℕ → ℤ → List ℕ → Rec → Rec
rec_with_field class id field number ranges rec =
    record rec {
      fields = if (rec.class == class) && (rec.id == id) then slice_set rec.fields field number else rec.fields;
      planned =
          map (λ pair. option_map (value_with_field class id field number pair.0) pair.1) (zip ranges rec.planned);
    }

-- a record that isn't pinned
abbrev pub new_raw : ℕ → List ℤ → List (Option ℕ) → Raw
new_raw id fields values = record { id = id; fields = fields; values = values; pinned = false }

-- a plan with one more fact, under the class's next id; it isn't pinned
unfoldable pub with_fact : PlanView → ℕ → List ℤ → List (Option ℕ) → PlanView
with_fact plan class fields values =
    let raw = new_raw (next_id_of plan class) fields values in
    record {
      classes = slice_set plan.classes class (with_next (class_of plan class) raw);
      made = plan.made + 1;
    }

-- a variable's value once a fact is gone: null where it held that fact
abbrev pub let_go : ℕ → ℕ → ℕ → Option ℕ → Option ℕ
let_go class id range None = None
let_go class id range (Some held) = if (range == class) && (held == id) then None else Some held

-- the values of variables, with these value classes, once a fact is gone
abbrev pub values_let_go : ℕ → ℕ → List ℕ → List (Option ℕ) → List (Option ℕ)
values_let_go class id ranges values = map (λ pair. let_go class id pair.0 pair.1) (zip ranges values)

-- a record whose variables, with these value classes, have let a fact go
abbrev pub record_let_go : ℕ → ℕ → List ℕ → Raw → Raw
record_let_go class id ranges raw = record raw { values = values_let_go class id ranges raw.values }

-- a class whose records have let a fact go
abbrev pub class_let_go : ℕ → ℕ → ClassView → ClassView
class_let_go class id view = record view { facts = map (record_let_go class id view.ranges) view.facts }

-- a class without its record of this id
abbrev pub without_record : ClassView → ℕ → ClassView
without_record view id = record view { facts = filter (λ raw. not (raw.id == id)) view.facts }

-- a plan without one fact: its record is gone, and each variable that held it is null
unfoldable pub without_fact : PlanView → ℕ → ℕ → PlanView
without_fact plan class id =
    let rest = slice_set plan.classes class (without_record (class_of plan class) id) in
    record plan { classes = map (class_let_go class id) rest }
