-- What a change names: a class, a rule, fields and variables.
use Rattle.std.specs.Prelude.{ℕ, List, [], Option, None, unwrap_or, option_map, map, find, position, slice_index_or}
use Rattle.std.specs.Str.{bytes_eq}
use Rattle.plan_facts.specs.declared.record.ClassDef.{ClassDef}
use Rattle.plan_facts.specs.declared.record.FieldDef.{FieldDef}
use Rattle.plan_facts.specs.declared.record.VarDef.{VarDef}
use Rattle.plan_changes.specs.declared.change.Item.{Item}
use Rattle.plan_changes.specs.declared.change.FieldItem.{FieldItem}
use Rattle.plan_changes.specs.declared.change.ValueItem.{ValueItem}

-- the number of the class with this name
abbrev pub class_named : List ClassDef → List ℕ → Option ℕ
class_named classes name = position (λ class. bytes_eq name class.name) classes

-- the number of the rule with this name
abbrev pub rule_named : List (List ℕ) → List ℕ → Option ℕ
rule_named names name = position (bytes_eq name) names

-- a class without fields and variables
abbrev pub no_def : ClassDef
no_def = record { name = []; fields = []; vars = [] }

-- the class with this number; where there is none, one without fields and variables
abbrev pub def_of : List ClassDef → ℕ → ClassDef
def_of classes class = slice_index_or classes class no_def

-- the field of a class with this name
abbrev pub field_named : ClassDef → List ℕ → Option FieldDef
field_named class name = find (λ field. bytes_eq name field.name) class.fields

-- the variable of a class with this name
abbrev pub var_named : ClassDef → List ℕ → Option VarDef
var_named class name = find (λ var. bytes_eq name var.name) class.vars

-- the item of the field with this name
abbrev pub field_item_named : List FieldItem → List ℕ → Option FieldItem
field_item_named items name = find (λ item. bytes_eq name item.name) items

-- the item of the variable with this name
abbrev pub value_item_named : List ValueItem → List ℕ → Option ValueItem
value_item_named items name = find (λ item. bytes_eq name item.name) items

-- what items give a field, if they name it
abbrev pub item_for : List FieldItem → FieldDef → Option Item
item_for items field = option_map (λ item. item.item) (field_item_named items field.name)

-- what items give a variable, if they name it: null, or an id
abbrev pub value_for : List ValueItem → VarDef → Option (Option ℕ)
value_for items var = option_map (λ item. item.value) (value_item_named items var.name)

-- what items give each field of a class, if they name it
abbrev pub items_for : List FieldItem → ClassDef → List (Option Item)
items_for items class = map (item_for items) class.fields

-- what items give each variable of a class, if they name it
abbrev pub values_for : List ValueItem → ClassDef → List (Option (Option ℕ))
values_for items class = map (value_for items) class.vars

-- what a variable holds that is given something or not: null where it isn't named
abbrev pub value_given : Option (Option ℕ) → Option ℕ
value_given value = unwrap_or value None
