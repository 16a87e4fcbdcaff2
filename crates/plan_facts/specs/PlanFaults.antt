-- The plan of some lists of records, and what the lists are refused for.
use Rattle.std.specs.Prelude.{ℕ, ◌==◌, ◌||◌, ◌&&◌, max, Bool, nat_lt, nat_le, int_le, ℤ, pos, neg_ℤ, List, [], ◌∷◌, length, map, zip, fold, sum_by, Option, is_some, if◌then◌else◌}
use Rattle.std.specs.Option.{option_or}
use Rattle.plan_facts.specs.Limits.{fact_limit, field_limit}
use Rattle.plan_facts.specs.First.{first_fault, fault_where, fault_unless}
use Rattle.plan_facts.specs.Plan.{PlanView, ClassView, view_of, ids_in, record_with_id, class_of, next_id_of, is_live, is_value_among}
use Rattle.plan_facts.specs.declared.record.Raw.{Raw}
use Rattle.plan_facts.specs.declared.record.ClassDef.{ClassDef}
use Rattle.plan_facts.specs.declared.fault.PlanFault.{PlanFault}
use Rattle.plan_facts.specs.declared.fault.PlanFault.TheVariants.{ClassCount, TooManyFacts, BadId, FieldCount, FieldRange, BadValue}

-- records with one more, before the first that has no lower id
abbrev pub put_by_id : Raw → List Raw → List Raw
put_by_id raw [] = raw ∷ []
put_by_id raw (first ∷ rest) = if nat_le raw.id first.id then raw ∷ first ∷ rest else first ∷ put_by_id raw rest

-- records in the order of their ids
abbrev pub by_id : List Raw → List Raw
by_id [] = []
by_id (raw ∷ rest) = put_by_id raw (by_id rest)

-- the value class of each variable of a class
abbrev pub ranges_of : ClassDef → List ℕ
ranges_of class = map (λ var. var.values) class.vars

-- whether each variable of a class may stay null
abbrev pub nullables_of : ClassDef → List Bool
nullables_of class = map (λ var. var.nullable) class.vars

-- a class of so many fields, with variables of these value classes that may stay null or not, with these records
abbrev pub table_of : ℕ → List ℕ → List Bool → List Raw → ClassView
table_of fields ranges nullables raws =
    view_of fields ranges nullables (by_id raws) (fold max 0 (ids_in (by_id raws)))

-- a class with these records
abbrev pub class_with : ClassDef → List Raw → ClassView
class_with class raws = table_of (length class.fields) (ranges_of class) (nullables_of class) raws

-- the plan of some classes with these records
unfoldable pub plan_of : List ClassDef → List (List Raw) → PlanView
plan_of classes lists =
    record { classes = map (λ pair. class_with pair.0 pair.1) (zip classes lists); made = sum_by length lists }

-- an id is 0, above 10^9, or that of an earlier record
abbrev pub is_bad_id : List Raw → ℕ → Bool
is_bad_id earlier id = nat_lt id 1 || nat_lt field_limit id || is_some (record_with_id id earlier)

-- a field's number is from -10^9 to 10^9
abbrev pub is_field_number : ℤ → Bool
is_field_number number = int_le (neg_ℤ (pos field_limit)) number && int_le number (pos field_limit)

-- a field that stands after these is out of range
abbrev pub number_fault : ℕ → ℕ → List ℤ → ℤ → Option PlanFault
number_fault class id earlier number = fault_unless (is_field_number number) (FieldRange class id (length earlier))

-- the fields of a record aren't as many as its class has, or one of them is out of range
abbrev pub fields_fault : ℕ → ℕ → ℕ → List ℤ → Option PlanFault
fields_fault class id count fields =
    option_or (fault_unless (length fields == count) (FieldCount class id))
    (first_fault (number_fault class id) [] fields)

-- a variable that stands after these holds what is no live record of its value class
abbrev pub value_fault : (ℕ → ℕ → Bool) → ℕ → ℕ → List (ℕ × Option ℕ) → ℕ × Option ℕ → Option PlanFault
value_fault live class id earlier pair =
    fault_unless (is_value_among live pair.0 pair.1) (BadValue class id (length earlier))

-- one of a record's values is no live record of its value class, or they aren't as many as the variables
abbrev pub values_fault : (ℕ → ℕ → Bool) → ℕ → ℕ → List ℕ → List (Option ℕ) → Option PlanFault
values_fault live class id ranges values =
    option_or (first_fault (value_fault live class id) [] (zip ranges values))
    (fault_unless (length values == length ranges) (BadValue class id (length ranges)))

-- the values of a record, whose variables have these value classes, are bad
abbrev pub record_values_fault : (ℕ → ℕ → Bool) → ℕ → List ℕ → List Raw → Raw → Option PlanFault
record_values_fault live class ranges earlier raw = values_fault live class raw.id ranges raw.values

-- the id or the fields of a record that stands after these are bad
abbrev pub record_fault : ℕ → ℕ → List Raw → Raw → Option PlanFault
record_fault class count earlier raw =
    option_or (fault_where (is_bad_id earlier raw.id) (BadId class raw.id))
    (fields_fault class raw.id count raw.fields)

-- the first record with a bad id or bad fields, of a class that stands after these
abbrev pub class_fault : List (ClassDef × List Raw) → ClassDef × List Raw → Option PlanFault
class_fault earlier pair = first_fault (record_fault (length earlier) (length pair.0.fields)) [] pair.1

-- the first record with bad values, of a class that stands after these
abbrev pub class_values_fault : (ℕ → ℕ → Bool) → List (ClassDef × List Raw) → ClassDef × List Raw → Option PlanFault
class_values_fault live earlier pair =
    first_fault (record_values_fault live (length earlier) (ranges_of pair.0)) [] pair.1

-- the first record with a bad id or bad fields
abbrev pub classes_fault : List ClassDef → List (List Raw) → Option PlanFault
classes_fault classes lists = first_fault class_fault [] (zip classes lists)

-- the first record with bad values
abbrev pub all_values_fault : (ℕ → ℕ → Bool) → List ClassDef → List (List Raw) → Option PlanFault
all_values_fault live classes lists = first_fault (class_values_fault live) [] (zip classes lists)

-- the first record with a bad id, bad fields or bad values; ids and fields come before values
abbrev pub lists_fault : List ClassDef → List (List Raw) → Option PlanFault
lists_fault classes lists =
    option_or (classes_fault classes lists) (all_values_fault (is_live (plan_of classes lists)) classes lists)

-- what lists of records are refused for, the first that applies
unfoldable pub plan_fault : List ClassDef → List (List Raw) → Option PlanFault
plan_fault classes lists =
    option_or (fault_unless (length lists == length classes) ClassCount)
    (option_or (fault_where (nat_lt fact_limit (sum_by length lists)) TooManyFacts)
    (lists_fault classes lists))

-- what a new fact is refused for, the first that applies
unfoldable pub add_fault : PlanView → ℕ → List ℤ → List (Option ℕ) → Option PlanFault
add_fault plan class fields values =
    option_or (fault_unless (nat_lt plan.made fact_limit) TooManyFacts)
    (option_or (fields_fault class (next_id_of plan class) (class_of plan class).fields fields)
    (values_fault (is_live plan) class (next_id_of plan class) (class_of plan class).ranges values))
