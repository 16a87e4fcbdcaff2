-- What a line gives fields and variables.
use Rattle.std.specs.Prelude.{ℕ, pos, Bool, true, false, ◌||◌, ◌&&◌, List, [], ◌∷◌, Option, is_some, unwrap_or, option_and_then, codes}
use Rattle.std.specs.Option.{option_map_or}
use Rattle.serde_json.specs.Data.{Data, Members, no_members, member}
use Rattle.serde_json.specs.Find.{get, as_str, as_object}
use Rattle.json_values.specs.Values.{is_text, is_null, whole_number, number_within}
use Rattle.plan_facts.specs.Limits.{field_limit}
use Rattle.plan_changes.specs.declared.change.Item.{Item}
use Rattle.plan_changes.specs.declared.change.Item.TheVariants.{Num, Name}
use Rattle.plan_changes.specs.declared.change.FieldItem.{FieldItem}
use Rattle.plan_changes.specs.declared.change.ValueItem.{ValueItem}

-- the test holds of each of some members
abbrev pub all_members : (Data → Bool) → Members → Bool
all_members test no_members = true
all_members test (member name value rest) = test value && all_members test rest

-- the value is an object, and the test holds of each of its members
abbrev pub is_object_of : (Data → Bool) → Data → Bool
is_object_of test value = option_map_or (all_members test) (as_object value) false

-- a field may be given the value: a whole number or a text
abbrev pub is_item : Data → Bool
is_item value = is_some (whole_number value) || is_text value

-- a variable may be given the value: null or an id
abbrev pub is_choice : Data → Bool
is_choice value = is_null value || is_some (number_within 1 field_limit value)

-- what a value gives a field: its text, or else its number
abbrev pub item_of : Data → Item
item_of value = option_map_or (λ text. Name text) (as_str value) (Num (unwrap_or (whole_number value) (pos 0)))

-- what members give fields, each by its name
abbrev pub field_items : Members → List FieldItem
field_items no_members = []
field_items (member name value rest) = record { name = name; item = item_of value } ∷ field_items rest

-- what members give variables, each by its name: null, or an id
abbrev pub value_items : Members → List ValueItem
value_items no_members = []
value_items (member name value rest) =
    record { name = name; value = number_within 1 field_limit value } ∷ value_items rest

-- the members of the object that a line has under the name
abbrev pub object_in : List ℕ → Data → Option Members
object_in name line = option_and_then as_object (get name line)

-- what a line's member `fields` gives fields
abbrev pub fields_of : Data → List FieldItem
fields_of line = option_map_or field_items (object_in (codes "fields") line) []

-- what a line's member `values` gives variables
abbrev pub values_of : Data → List ValueItem
values_of line = option_map_or value_items (object_in (codes "values") line) []
