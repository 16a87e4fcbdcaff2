-- A change as contracts see it.
use Rattle.std.specs.Prelude.{ℕ, ◌≤◌, ◌-◌, ◌++◌, ◌∷◌, [], Bool, true, List, AllPairs, IsTrue, Option, length, slice_get}
use Rattle.std.specs.Option.{option_map_or}
use Rattle.std.specs.Ordering.{nat_cmp, is_lt}
use Rattle.std.specs.Cmp.Lexicographic.{slice_cmp}
use Rattle.plan_facts.specs.Limits.{weight_limit}
use Rattle.plan_changes.specs.declared.change.Deed.{Deed}
use Rattle.plan_changes.specs.declared.change.FieldItem.{FieldItem}
use Rattle.plan_changes.specs.declared.change.ValueItem.{ValueItem}

-- a change: what it does; the class and id of a fact, and what its fields and variables get; a rule's name and weight
pub record ChangeView : Type 0 where
  pub deed : Deed
  pub class : List ℕ
  pub id : ℕ
  pub fields : List FieldItem
  pub values : List ValueItem
  pub rule : List ℕ
  pub weight : ℕ

-- the change of these parts
abbrev pub view_of : Deed → List ℕ → ℕ → List FieldItem → List ValueItem → List ℕ → ℕ → ChangeView
view_of deed class id fields values rule weight =
    record {
      deed = deed;
      class = class;
      id = id;
      fields = fields;
      values = values;
      rule = rule;
      weight = weight;
    }

-- one name comes before another in the order of bytes
abbrev pub IsNameBefore : List ℕ → List ℕ → Type 0
IsNameBefore one other = IsTrue (is_lt (slice_cmp nat_cmp one other))

-- items of fields stand in the order of their names, each name once
abbrev pub AreFieldsInOrder : List FieldItem → Type 0
AreFieldsInOrder fields = AllPairs (λ one other. IsNameBefore one.name other.name) fields

-- items of variables stand in the order of their names, each name once
abbrev pub AreValuesInOrder : List ValueItem → Type 0
AreValuesInOrder values = AllPairs (λ one other. IsNameBefore one.name other.name) values

-- what every change keeps to: items in the order of their names, and a weight of at most a million
pub record IsChange (fields : List FieldItem) (values : List ValueItem) (weight : ℕ) : Type 0 where
  pub fields_in_order : AreFieldsInOrder fields
  pub values_in_order : AreValuesInOrder values
  pub weight_in_range : weight ≤ weight_limit

-- one name comes before another
abbrev pub is_name_before : List ℕ → List ℕ → Bool
is_name_before one other = is_lt (slice_cmp nat_cmp one other)

-- the last of some items, if there is one
abbrev pub last_of : {A : Type 0} → List A → Option A
last_of items = slice_get items (length items - 1)

-- a name comes after the last one of these items, or there is none
abbrev pub is_after_fields : List FieldItem → List ℕ → Bool
is_after_fields items name = option_map_or (λ item. is_name_before item.name name) (last_of items) true

-- a name comes after the last one of these items, or there is none
abbrev pub is_after_values : List ValueItem → List ℕ → Bool
is_after_values items name = option_map_or (λ item. is_name_before item.name name) (last_of items) true

-- a change that gives one more field something
abbrev pub with_field : ChangeView → FieldItem → ChangeView
with_field change item = record change { fields = change.fields ++ item ∷ [] }

-- a change that gives one more variable something
abbrev pub with_value : ChangeView → ValueItem → ChangeView
with_value change item = record change { values = change.values ++ item ∷ [] }
