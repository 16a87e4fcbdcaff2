-- What a JSON value is read as.
use Rattle.std.specs.Prelude.{ℕ, ℤ, pos, negsuc, Bool, true, false, ◌&&◌, not, nat_le, is_some, List, [], ◌∷◌, Option, Some, None, option_map, option_and_then, if◌then◌else◌}
use Rattle.std.specs.Option.{option_map_or}
use Rattle.std.specs.Str.{is_utf8, bytes_eq}
use Rattle.std.specs.List.{list_any}
use Rattle.serde_json.specs.Data.{Data, Items, no_items, item, Members, no_members, member}
use Rattle.serde_json.specs.Read.{read}
use Rattle.serde_json.specs.Find.{get, as_object, as_array, as_number, as_str, as_bool, as_null, as_i64}

-- the value that serde_json reads from the bytes; none where they aren't UTF-8 or it refuses them
unfoldable pub value_of : List ℕ → Option Data
value_of bytes = if is_utf8 bytes then read bytes else None

abbrev pub is_object : Data → Bool
is_object value = is_some (as_object value)

abbrev pub is_array : Data → Bool
is_array value = is_some (as_array value)

abbrev pub is_text : Data → Bool
is_text value = is_some (as_str value)

-- true or false
abbrev pub is_flag : Data → Bool
is_flag value = is_some (as_bool value)

abbrev pub is_null : Data → Bool
is_null value = is_some (as_null value)

-- the value has the member, and the test holds of it
abbrev pub must_be : (Data → Bool) → List ℕ → Data → Bool
must_be test name value = option_map_or test (get name value) false

-- the test holds of the member where the value has it
abbrev pub may_be : (Data → Bool) → List ℕ → Data → Bool
may_be test name value = option_map_or test (get name value) true

-- the whole number that a value is; `1.0`, `1e3` and `-0` are none
abbrev pub whole_number : Data → Option ℤ
whole_number value = option_and_then as_i64 (as_number value)

-- a number where it isn't negative and lies from low to high
abbrev pub within : ℕ → ℕ → ℤ → Option ℕ
within low high (pos n) = if nat_le low n && nat_le n high then Some n else None
within low high (negsuc n) = None

-- the whole number from low to high that a value is
abbrev pub number_within : ℕ → ℕ → Data → Option ℕ
number_within low high value = option_and_then (within low high) (whole_number value)

abbrev pub listed : Items → List Data
listed no_items = []
listed (item value rest) = value ∷ listed rest

-- the items of an array; none where the value is no array
abbrev pub items_of : Data → Option (List Data)
items_of value = option_map listed (as_array value)

abbrev pub keys_of : Members → List (List ℕ)
keys_of no_members = []
keys_of (member name value rest) = name ∷ keys_of rest

-- the names of the members of a value, each once; none where it is no object
abbrev pub member_names : Data → List (List ℕ)
member_names value = option_map_or keys_of (as_object value) []

-- none of these names is this one
abbrev pub is_other : List (List ℕ) → List ℕ → Bool
is_other names name = not (list_any (bytes_eq name) names)

-- the value has a member that isn't among these names
abbrev pub has_other : List (List ℕ) → Data → Bool
has_other names value = list_any (is_other names) (member_names value)
