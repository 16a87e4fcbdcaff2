-- What the records of a problem are refused for.
use Rattle.std.specs.Prelude.{ℕ, Bool, false, ◌&&◌, ◌==◌, nat_lt, nat_le, List, [], length, sum_by, slice_get, Option}
use Rattle.std.specs.Option.{option_or, option_map_or}
use Rattle.std.specs.List.{list_any}
use Rattle.serde_json.specs.Data.{Data}
use Rattle.plan_facts.specs.First.{first_fault, fault_where, fault_unless}
use Rattle.plan_facts.specs.Limits.{fact_limit}
use Rattle.plan_facts.specs.Plan.{is_value_among}
use Rattle.plan_facts.specs.PlanFaults.{is_field_number}
use Rattle.plan_facts.specs.declared.record.ClassDef.{ClassDef}
use Rattle.plan_facts.specs.declared.record.FieldDef.{FieldDef}
use Rattle.plan_facts.specs.declared.record.VarDef.{VarDef}
use Rattle.problem_faults.specs.declared.fault.ProblemFault.{ProblemFault}
use Rattle.problem_faults.specs.declared.fault.ProblemFault.TheVariants.{TooManyFacts, DoubleId, BadField, BadValue}
use Rattle.problem_records.specs.Records.{records_of, id_in, id_of}
use Rattle.problem_records.specs.Shapes.{shape_fault}
use Rattle.problem_records.specs.Facts.{by_kind, number_in, text_in}

-- how many records the facts list
abbrev pub count_of : List ClassDef → Data → ℕ
count_of classes facts = sum_by (λ class. length (records_of facts class)) classes

-- the facts list more records than there may be
abbrev pub are_too_many : List ClassDef → Data → Bool
are_too_many classes facts = nat_lt fact_limit (count_of classes facts)

-- one of some records has this id
abbrev pub has_id : List Data → ℕ → Bool
has_id entries id = list_any (λ entry. id_of entry == id) entries

-- the id of the record that stands after these is that of one of them
abbrev pub id_fault : ClassDef → List Data → Data → Option ProblemFault
id_fault class earlier entry = fault_where (has_id earlier (id_of entry)) (DoubleId class.name (id_of entry))

-- a name has 1 to 64 bytes
abbrev pub is_short_name : List ℕ → Bool
is_short_name text = nat_le 1 (length text) && nat_le (length text) 64

-- the field's number is from -10^9 to 10^9, or its name has 1 to 64 bytes
abbrev pub is_good_field : Data → FieldDef → Bool
is_good_field entry field =
    by_kind field.kind (is_field_number (number_in field.name entry)) (is_short_name (text_in field.name entry))

-- the field of the record is out of range
abbrev pub field_fault : ClassDef → Data → List FieldDef → FieldDef → Option ProblemFault
field_fault class entry earlier field =
    fault_unless (is_good_field entry field) (BadField class.name (id_of entry) field.name)

-- the first field of the record that is out of range
abbrev pub fields_fault : ClassDef → Data → Option ProblemFault
fields_fault class entry = first_fault (field_fault class entry) [] class.fields

-- the id of the record that stands after these is double, or a field of it is out of range
abbrev pub record_fault : ClassDef → List Data → Data → Option ProblemFault
record_fault class earlier entry = option_or (id_fault class earlier entry) (fields_fault class entry)

-- the first of some records of the class with a double id or a field out of range
abbrev pub list_fault : ClassDef → List Data → Option ProblemFault
list_fault class entries = first_fault (record_fault class) [] entries

-- the first record of the class with a double id or a field out of range
abbrev pub class_fault : Data → List ClassDef → ClassDef → Option ProblemFault
class_fault facts earlier class = list_fault class (records_of facts class)

-- the first record with a double id or a field out of range
abbrev pub contents_fault : List ClassDef → Data → Option ProblemFault
contents_fault classes facts = first_fault (class_fault facts) [] classes

-- the class with this number has a record with this id
abbrev pub has_record : List ClassDef → Data → ℕ → ℕ → Bool
has_record classes facts n id =
    option_map_or (λ class. has_id (records_of facts class) id) (slice_get classes n) false

-- the variable of the record holds null, or a record of its value class
abbrev pub is_good_value : List ClassDef → Data → Data → VarDef → Bool
is_good_value classes facts entry var =
    is_value_among (has_record classes facts) var.values (id_in var.name entry)

-- the variable of the record holds what is no record of its value class
abbrev pub value_fault : List ClassDef → Data → ClassDef → Data → List VarDef → VarDef → Option ProblemFault
value_fault classes facts class entry earlier var =
    fault_unless (is_good_value classes facts entry var) (BadValue class.name (id_of entry) var.name)

-- the first variable of the record that holds no record of its value class
abbrev pub record_values_fault : List ClassDef → Data → ClassDef → List Data → Data → Option ProblemFault
record_values_fault classes facts class earlier entry =
    first_fault (value_fault classes facts class entry) [] class.vars

-- the first record of the class with such a variable
abbrev pub class_values_fault : List ClassDef → Data → List ClassDef → ClassDef → Option ProblemFault
class_values_fault classes facts earlier class =
    first_fault (record_values_fault classes facts class) [] (records_of facts class)

-- the first record with such a variable
abbrev pub values_fault : List ClassDef → Data → Option ProblemFault
values_fault classes facts = first_fault (class_values_fault classes facts) [] classes

-- what the facts are refused for, the first that applies: their shape, too many records, then record by record a double id or
-- a field out of range, then record by record a variable that holds no record of its value class
unfoldable pub records_fault : List ClassDef → Data → Option ProblemFault
records_fault classes facts =
    option_or (shape_fault classes facts)
    (option_or (fault_where (are_too_many classes facts) TooManyFacts)
    (option_or (contents_fault classes facts)
    (values_fault classes facts)))
