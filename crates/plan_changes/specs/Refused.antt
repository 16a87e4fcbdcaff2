-- What a change is refused for.
use Rattle.std.specs.Prelude.{ℕ, ◌+◌, ◌*◌, ◌==◌, ◌&&◌, ◌||◌, not, Bool, true, false, nat_lt, nat_le, List, [], length, fold, Option, Some, None, is_some, if◌then◌else◌}
use Rattle.std.specs.Option.{option_or, option_map_or}
use Rattle.std.specs.List.{list_any}
use Rattle.plan_facts.specs.First.{first_fault, fault_where, fault_unless}
use Rattle.plan_facts.specs.Limits.{fact_limit}
use Rattle.plan_facts.specs.Plan.{PlanView, ids_of, is_live, is_value_of}
use Rattle.plan_facts.specs.PlanFaults.{is_field_number}
use Rattle.plan_facts.specs.declared.record.Kind.{Kind}
use Rattle.plan_facts.specs.declared.record.Kind.TheVariants as kind
use Rattle.plan_facts.specs.declared.record.ClassDef.{ClassDef}
use Rattle.plan_facts.specs.declared.record.FieldDef.{FieldDef}
use Rattle.plan_facts.specs.declared.record.VarDef.{VarDef}
use Rattle.plan_changes.specs.Change.{ChangeView}
use Rattle.plan_changes.specs.Deeds.{is_add, is_weight}
use Rattle.plan_changes.specs.Named.{class_named, rule_named, def_of, field_named, var_named, item_for, value_for, value_given}
use Rattle.plan_changes.specs.declared.change.Item.{Item}
use Rattle.plan_changes.specs.declared.change.Item.TheVariants as item
use Rattle.plan_changes.specs.declared.change.FieldItem.{FieldItem}
use Rattle.plan_changes.specs.declared.change.ValueItem.{ValueItem}
use Rattle.plan_changes.specs.declared.fault.ChangeFault.{ChangeFault}
use Rattle.plan_changes.specs.declared.fault.ChangeFault.TheVariants.{UnknownClass, NoSuchFact, BadField, BadValue, TooManyFacts, RangeProduct, UnknownRule}

-- a name of 1 to 64 bytes
abbrev pub is_short_name : List ℕ → Bool
is_short_name text = nat_le 1 (length text) && nat_le (length text) 64

-- a field of this kind may hold it: a number in range, or a name that is neither empty nor too long
abbrev pub is_good_item : Kind → Item → Bool
is_good_item kind.Number (item.Num number) = is_field_number number
is_good_item kind.Number (item.Name text) = false
is_good_item kind.Name (item.Num number) = false
is_good_item kind.Name (item.Name text) = is_short_name text

-- an item names a field that the class doesn't have
abbrev pub names_other_field : ClassDef → FieldItem → Bool
names_other_field class item = not (is_some (field_named class item.name))

-- a field is given what it may not hold, or isn't named though it is needed
abbrev pub is_bad_field : Bool → List FieldItem → FieldDef → Bool
is_bad_field needed items field =
    option_map_or (λ item. not (is_good_item field.kind item)) (item_for items field) needed

-- a change names a field that the class doesn't have, gives one what it may not hold, or doesn't name one of a new fact
abbrev pub has_bad_field : ClassDef → ChangeView → Bool
has_bad_field class change =
    list_any (names_other_field class) change.fields
    || list_any (is_bad_field (is_add change.deed) change.fields) class.fields

-- an item names a variable that the class doesn't have
abbrev pub names_other_variable : ClassDef → ValueItem → Bool
names_other_variable class item = not (is_some (var_named class item.name))

-- a variable is given what is neither null nor a live fact of its value class
abbrev pub is_bad_variable : PlanView → List ValueItem → VarDef → Bool
is_bad_variable plan items var = not (is_value_of plan var.values (value_given (value_for items var)))

-- a change names a variable that the class doesn't have, or gives one what it may not hold
abbrev pub has_bad_value : PlanView → ClassDef → ChangeView → Bool
has_bad_value plan class change =
    list_any (names_other_variable class) change.values || list_any (is_bad_variable plan change.values) class.vars

-- how many live facts a class has once one was added to a class
abbrev pub count_grown : PlanView → ℕ → ℕ → ℕ
count_grown plan class range = length (ids_of plan range) + (if range == class then 1 else 0)

-- how many choices a variable has then: the facts of its range, and null where it may stay null
abbrev pub choices_grown : PlanView → ℕ → VarDef → ℕ
choices_grown plan class var = count_grown plan class var.values + (if var.nullable then 1 else 0)

-- how many combinations of values an entity of a class could take then: the product of the numbers of choices
abbrev pub combinations_grown : PlanView → ℕ → ClassDef → ℕ
combinations_grown plan class def = fold (λ count var. count * choices_grown plan class var) 1 def.vars

-- an entity of a class could take more than 65,536 combinations then
abbrev pub is_wide : PlanView → ℕ → ClassDef → Bool
is_wide plan class def = nat_lt 65536 (combinations_grown plan class def)

-- the entities of a class that stands after these could take too many combinations then
abbrev pub width_fault : PlanView → ℕ → List ClassDef → ClassDef → Option ChangeFault
width_fault plan class earlier def = fault_where (is_wide plan class def) (RangeProduct (length earlier))

-- what one more fact of this class is refused for: too many facts, or the first class with too many combinations
abbrev pub growth_fault : List ClassDef → PlanView → ℕ → Option ChangeFault
growth_fault classes plan class =
    option_or (fault_unless (nat_lt plan.made fact_limit) TooManyFacts)
    (first_fault (width_fault plan class) [] classes)

-- the change is about a fact that isn't there
abbrev pub lacks_fact : PlanView → ℕ → ChangeView → Bool
lacks_fact plan class change = not (is_add change.deed) && not (is_live plan class change.id)

-- what a change of a fact of this class is refused for
abbrev pub fact_fault_in : List ClassDef → PlanView → ℕ → ChangeView → Option ChangeFault
fact_fault_in classes plan class change =
    option_or (fault_where (lacks_fact plan class change) (NoSuchFact change.id))
    (option_or (fault_where (has_bad_field (def_of classes class) change) BadField)
    (option_or (fault_where (has_bad_value plan (def_of classes class) change) BadValue)
    (if is_add change.deed then growth_fault classes plan class else None)))

-- what a change of a fact is refused for
abbrev pub fact_fault : List ClassDef → PlanView → ChangeView → Option ChangeFault
fact_fault classes plan change =
    option_map_or (λ n. fact_fault_in classes plan n change) (class_named classes change.class) (Some UnknownClass)

-- what a change of a rule's weight is refused for
abbrev pub rule_fault : List (List ℕ) → ChangeView → Option ChangeFault
rule_fault rules change = fault_unless (is_some (rule_named rules change.rule)) UnknownRule

-- what a change is refused for, the first that applies; that rows and score stay in range is looked at elsewhere
unfoldable pub change_fault : List ClassDef → PlanView → List (List ℕ) → ChangeView → Option ChangeFault
change_fault classes plan rules change =
    if is_weight change.deed then rule_fault rules change else fact_fault classes plan change
