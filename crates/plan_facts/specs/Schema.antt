-- What a schema is refused for.
use Rattle.std.specs.Prelude.{ℕ, ◌≤◌, Bool, false, ◌&&◌, ◌||◌, not, nat_lt, nat_le, List, [], ◌∷◌, ◌++◌, Option, length, map, slice_get, codes, All, IsTrue}
use Rattle.std.specs.Option.{option_or, option_map_or}
use Rattle.std.specs.Str.{bytes_eq}
use Rattle.std.specs.List.{list_all, list_any}
use Rattle.plan_facts.specs.First.{first_fault, fault_where, fault_unless}
use Rattle.plan_facts.specs.declared.record.VarDef.{VarDef}
use Rattle.plan_facts.specs.declared.record.ClassDef.{ClassDef}
use Rattle.plan_facts.specs.declared.schema.SchemaFault.{SchemaFault}
use Rattle.plan_facts.specs.declared.schema.SchemaFault.TheVariants.{TooManyClasses, TooManyFields, TooManyVars, BadName, BadRange}

-- a small letter
abbrev pub is_letter : ℕ → Bool
is_letter byte = nat_le 97 byte && nat_le byte 122

-- a small letter, a digit or an underscore
abbrev pub is_name_byte : ℕ → Bool
is_name_byte byte = is_letter byte || (nat_le 48 byte && nat_le byte 57) || bytes_eq (byte ∷ []) (codes "_")

abbrev pub begins_with_letter : List ℕ → Bool
begins_with_letter [] = false
begins_with_letter (first ∷ _) = is_letter first

-- a name: 1 to 32 bytes of small letters, digits and underscores, a letter first
abbrev pub is_name : List ℕ → Bool
is_name text = begins_with_letter text && nat_le (length text) 32 && list_all is_name_byte text

-- a name that a class, field or variable may have: any but `id` and `pinned`, which say of a record itself
abbrev pub is_free_name : List ℕ → Bool
is_free_name text = is_name text && not (bytes_eq text (codes "id") || bytes_eq text (codes "pinned"))

-- the names of the fields and variables of a class
abbrev pub member_names : ClassDef → List (List ℕ)
member_names class = map (λ f. f.name) class.fields ++ map (λ v. v.name) class.vars

-- some text stands twice
abbrev pub has_double : List (List ℕ) → Bool
has_double [] = false
has_double (text ∷ rest) = list_any (bytes_eq text) rest || has_double rest

-- a name of the class is none that it may have, or is taken: by an earlier class, or twice among its members
abbrev pub has_bad_name : List ClassDef → ClassDef → Bool
has_bad_name earlier class =
    not (list_all is_free_name (class.name ∷ member_names class))
    || list_any (λ c. bytes_eq class.name c.name) earlier
    || has_double (member_names class)

-- the class with this number is there and has no variables, so that its facts may be values
abbrev pub may_be_range : List ClassDef → ℕ → Bool
may_be_range classes n = option_map_or (λ c. nat_lt (length c.vars) 1) (slice_get classes n) false

-- a class that stands after these has more than 16 fields
abbrev pub field_count_fault : List ClassDef → ClassDef → Option SchemaFault
field_count_fault earlier class = fault_where (nat_lt 16 (length class.fields)) (TooManyFields (length earlier))

-- a class that stands after these has more than 2 variables
abbrev pub var_count_fault : List ClassDef → ClassDef → Option SchemaFault
var_count_fault earlier class = fault_where (nat_lt 2 (length class.vars)) (TooManyVars (length earlier))

-- a class that stands after these has a bad name
abbrev pub name_fault : List ClassDef → ClassDef → Option SchemaFault
name_fault earlier class = fault_where (has_bad_name earlier class) (BadName (length earlier))

-- a variable that stands after these in the class with this number has a range that is no class of values
abbrev pub var_range_fault : List ClassDef → ℕ → List VarDef → VarDef → Option SchemaFault
var_range_fault classes class earlier var =
    fault_unless (may_be_range classes var.values) (BadRange class (length earlier))

-- the first variable of a class that stands after these whose range is no class of values
abbrev pub range_fault : List ClassDef → List ClassDef → ClassDef → Option SchemaFault
range_fault classes earlier class = first_fault (var_range_fault classes (length earlier)) [] class.vars

-- what a schema of these classes is refused for, the first that applies
abbrev pub schema_fault : List ClassDef → Option SchemaFault
schema_fault classes =
    option_or (fault_where (nat_lt 16 (length classes)) TooManyClasses)
    (option_or (first_fault field_count_fault [] classes)
    (option_or (first_fault var_count_fault [] classes)
    (option_or (first_fault name_fault [] classes)
    (first_fault (range_fault classes) [] classes))))

-- at most 16 fields and 2 variables
pub record HasFewMembers (class : ClassDef) : Type 0 where
  pub fields : length class.fields ≤ 16
  pub vars : length class.vars ≤ 2

-- each variable of the class ranges over a class of these that has no variables
abbrev pub HasRanges : List ClassDef → ClassDef → Type 0
HasRanges classes class = All (λ v. IsTrue (may_be_range classes v.values)) class.vars
