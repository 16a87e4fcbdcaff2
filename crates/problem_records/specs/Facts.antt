-- What the facts of a problem say: the names that they use, and the records of each class.
use Rattle.std.specs.Prelude.{ℕ, ℤ, pos, Option, Bool, false, List, [], ◌∷◌, map, fold, codes, option_and_then, unwrap_or}
use Rattle.std.specs.List.{flat_map}
use Rattle.serde_json.specs.Data.{Data}
use Rattle.serde_json.specs.Find.{get, as_str, as_bool}
use Rattle.json_values.specs.Values.{whole_number}
use Rattle.plan_facts.specs.Names.{number_of, with_name}
use Rattle.plan_facts.specs.declared.record.ClassDef.{ClassDef}
use Rattle.plan_facts.specs.declared.record.FieldDef.{FieldDef}
use Rattle.plan_facts.specs.declared.record.Kind.{Kind}
use Rattle.plan_facts.specs.declared.record.Kind.TheVariants.{Number, Name}
use Rattle.plan_facts.specs.declared.record.Raw.{Raw}
use Rattle.problem_records.specs.Records.{records_of, id_in, id_of}

-- one thing for a number field, another for a name field
abbrev pub by_kind : {A : Type 0} → Kind → A → A → A
by_kind Number number name = number
by_kind Name number name = name

-- the whole number that a member holds; 0 where it holds none
abbrev pub number_in : List ℕ → Data → ℤ
number_in name entry = unwrap_or (option_and_then whole_number (get name entry)) (pos 0)

-- the text that a member holds; the empty one where it holds none
abbrev pub text_in : List ℕ → Data → List ℕ
text_in name entry = unwrap_or (option_and_then as_str (get name entry)) []

-- the text of a field that holds a name, and none of a field that holds a number
abbrev pub field_texts : Data → FieldDef → List (List ℕ)
field_texts entry field = by_kind field.kind [] (text_in field.name entry ∷ [])

-- the texts of the name fields of a record of the class, fields in schema order
abbrev pub record_texts : ClassDef → Data → List (List ℕ)
record_texts class entry = flat_map (field_texts entry) class.fields

-- the texts of the name fields of some records of the class, as they are listed
abbrev pub list_texts : ClassDef → List Data → List (List ℕ)
list_texts class entries = flat_map (record_texts class) entries

-- the texts of the name fields of the records of a class
abbrev pub class_texts : Data → ClassDef → List (List ℕ)
class_texts facts class = list_texts class (records_of facts class)

-- the names with these texts among them, in the order of first sight
abbrev pub numbered : List (List ℕ) → List (List ℕ) → List (List ℕ)
numbered names texts = fold with_name names texts

-- the names that the facts use, in the order of first sight
unfoldable pub names_of : List ClassDef → Data → List (List ℕ)
names_of classes facts = numbered [] (flat_map (class_texts facts) classes)

-- what a field of a record holds: the whole number, or the number of the name
abbrev pub field_number : List (List ℕ) → Data → FieldDef → ℤ
field_number names entry field =
    by_kind field.kind (number_in field.name entry) (pos (number_of names (text_in field.name entry)))

-- the numbers of a record's fields
abbrev pub field_numbers : List (List ℕ) → ClassDef → Data → List ℤ
field_numbers names class entry = map (field_number names entry) class.fields

-- what a record's variables hold; a variable that isn't named is null
abbrev pub values_in : ClassDef → Data → List (Option ℕ)
values_in class entry = map (λ var. id_in var.name entry) class.vars

-- whether a record says that it is pinned
abbrev pub is_pinned : Data → Bool
is_pinned entry = unwrap_or (option_and_then as_bool (get (codes "pinned") entry)) false

-- a record of the class, with the numbers of its names
abbrev pub raw_of : List (List ℕ) → ClassDef → Data → Raw
raw_of names class entry = record {
  id = id_of entry;
  fields = field_numbers names class entry;
  values = values_in class entry;
  pinned = is_pinned entry;
}

-- the records of a class, as they are listed
abbrev pub class_raws : List (List ℕ) → Data → ClassDef → List Raw
class_raws names facts class = map (raw_of names class) (records_of facts class)

-- the records of each class, as they are listed, with the numbers that these names give
abbrev pub raw_lists : List (List ℕ) → List ClassDef → Data → List (List Raw)
raw_lists names classes facts = map (class_raws names facts) classes

-- the records of each class, with the numbers of the names that the facts use
unfoldable pub raws_of : List ClassDef → Data → List (List Raw)
raws_of classes facts = raw_lists (names_of classes facts) classes facts
