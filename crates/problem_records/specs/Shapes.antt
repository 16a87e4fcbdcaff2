-- Where the facts of a problem lack something, or have something of another kind or unknown.
use Rattle.std.specs.Prelude.{ℕ, Bool, ◌||◌, ◌&&◌, not, List, [], ◌∷◌, ◌++◌, length, map, find, Option, Some, None, is_some, option_map, codes, decimal, if◌then◌else◌}
use Rattle.std.specs.Option.{option_or, option_map_or}
use Rattle.std.specs.List.{flat_map}
use Rattle.serde_json.specs.Data.{Data}
use Rattle.serde_json.specs.Find.{get}
use Rattle.json_values.specs.Values.{is_object, is_text, is_flag, is_null, whole_number, number_within, items_of, has_other, must_be, may_be}
use Rattle.plan_facts.specs.First.{first_fault, fault_where, fault_unless}
use Rattle.plan_facts.specs.Limits.{field_limit}
use Rattle.plan_facts.specs.Schema.{member_names}
use Rattle.plan_facts.specs.declared.record.ClassDef.{ClassDef}
use Rattle.plan_facts.specs.declared.record.FieldDef.{FieldDef}
use Rattle.plan_facts.specs.declared.record.VarDef.{VarDef}
use Rattle.plan_facts.specs.declared.record.Kind.{Kind}
use Rattle.plan_facts.specs.declared.record.Kind.TheVariants.{Number, Name}
use Rattle.problem_faults.specs.declared.fault.ProblemFault.{ProblemFault}
use Rattle.problem_faults.specs.declared.fault.ProblemFault.TheVariants.{Shape}
use Rattle.problem_records.specs.Records.{has_entities, id_in}

-- the path of what stands below the facts: `/facts`, and each part after a further `/`
abbrev pub path_of : List (List ℕ) → List ℕ
path_of parts = codes "/facts" ++ flat_map (λ part. codes "/" ++ part) parts

-- the refusal of what stands at the path of these parts
abbrev pub shape_at : List (List ℕ) → ProblemFault
shape_at parts = Shape (path_of parts)

-- the refusal of the record of a class at this place of its list
abbrev pub record_shape : ClassDef → ℕ → ProblemFault
record_shape class place = shape_at (class.name ∷ decimal place ∷ [])

-- the refusal of a member of that record
abbrev pub member_shape : ClassDef → ℕ → List ℕ → ProblemFault
member_shape class place name = shape_at (class.name ∷ decimal place ∷ name ∷ [])

-- a value is what a field of this kind holds: a whole number, or a text
abbrev pub is_of_kind : Kind → Data → Bool
is_of_kind Number value = is_some (whole_number value)
is_of_kind Name value = is_text value

-- the record has the field, of its kind
abbrev pub has_field : Data → FieldDef → Bool
has_field entry field = must_be (is_of_kind field.kind) field.name entry

-- a value is what a variable holds: null, or an id
abbrev pub is_choice : Data → Bool
is_choice value = is_null value || is_some (number_within 1 field_limit value)

-- what the record has for the variable is null or an id, where it has something
abbrev pub has_variable : Data → VarDef → Bool
has_variable entry var = may_be is_choice var.name entry

-- the record is no entity, or what it has for `pinned` is true or false, where it has something
abbrev pub may_be_pinned : ClassDef → Data → Bool
may_be_pinned class entry = not (has_entities class) || may_be is_flag (codes "pinned") entry

-- the name of the first field that the record lacks or has of another kind
abbrev pub bad_field : ClassDef → Data → Option (List ℕ)
bad_field class entry = option_map (λ field. field.name) (find (λ field. not (has_field entry field)) class.fields)

-- the name of the first variable for which the record has what is no null and no id
abbrev pub bad_variable : ClassDef → Data → Option (List ℕ)
bad_variable class entry = option_map (λ var. var.name) (find (λ var. not (has_variable entry var)) class.vars)

-- the name of the first member that is missing or of another kind: the id, fields, variables, `pinned`
abbrev pub bad_member : ClassDef → Data → Option (List ℕ)
bad_member class entry =
    option_or (fault_unless (is_some (id_in (codes "id") entry)) (codes "id"))
    (option_or (bad_field class entry)
    (option_or (bad_variable class entry)
    (fault_unless (may_be_pinned class entry) (codes "pinned"))))

-- the names of the id, fields and variables of a record of the class
abbrev pub own_names : ClassDef → List (List ℕ)
own_names class = codes "id" ∷ member_names class

-- the names of the members that a record of the class may have: an entity also has `pinned`
abbrev pub known_names : ClassDef → List (List ℕ)
known_names class = if has_entities class then codes "pinned" ∷ own_names class else own_names class

-- the record at this place of its list is no object, has a bad member, or has one that its class doesn't know
abbrev pub record_shape_at : ClassDef → ℕ → Data → Option ProblemFault
record_shape_at class place entry =
    option_or (fault_unless (is_object entry) (record_shape class place))
    (option_or (option_map (member_shape class place) (bad_member class entry))
    (fault_where (has_other (known_names class) entry) (record_shape class place)))

-- the record that stands after these is of another shape
abbrev pub record_shape_fault : ClassDef → List Data → Data → Option ProblemFault
record_shape_fault class earlier entry = record_shape_at class (length earlier) entry

-- the first of some records of a class that is of another shape
abbrev pub records_shape_fault : ClassDef → List Data → Option ProblemFault
records_shape_fault class records = first_fault (record_shape_fault class) [] records

-- what the facts have for a class is no array
abbrev pub list_shape_fault : ClassDef → Option (List Data) → Option ProblemFault
list_shape_fault class None = Some (shape_at (class.name ∷ []))
list_shape_fault class (Some records) = records_shape_fault class records

-- what the facts have for a class, if they name it, is no array, or one of its records is of another shape
abbrev pub class_shape_fault : Data → List ClassDef → ClassDef → Option ProblemFault
class_shape_fault facts earlier class =
    option_map_or (λ value. list_shape_fault class (items_of value)) (get class.name facts) None

-- the first class that is of another shape
abbrev pub classes_shape_fault : List ClassDef → Data → Option ProblemFault
classes_shape_fault classes facts = first_fault (class_shape_fault facts) [] classes

-- the names of classes
abbrev pub class_names : List ClassDef → List (List ℕ)
class_names classes = map (λ class. class.name) classes

-- the first thing of another shape, class by class; then a member of the facts that is no class
abbrev pub shape_fault : List ClassDef → Data → Option ProblemFault
shape_fault classes facts =
    option_or (classes_shape_fault classes facts)
    (fault_where (has_other (class_names classes) facts) (shape_at []))
