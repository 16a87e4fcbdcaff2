-- What a change makes of a plan, of its names and of the weights of its rules.
use Rattle.std.specs.Prelude.{◌≡◌, ◌<◌, ◌≤◌, ◌+◌, ◌⊎◌, ℕ, ℤ, pos, Bool, true, false, List, [], ◌∷◌, length, map, fold, Option, Some, None, IsTrue, IsSomeAnd, All, slice_set, if◌then◌else◌}
use Rattle.std.specs.List.{flat_map, enumerate_from, AllZip}
use Rattle.std.specs.Option.{option_map_or}
use Rattle.plan_facts.specs.Limits.{fact_limit, field_limit}
use Rattle.plan_facts.specs.Names.{number_of, with_name}
use Rattle.plan_facts.specs.Plan.{PlanView, class_of, fact_of, is_value_of, next_id_of}
use Rattle.plan_facts.specs.PlanFaults.{is_field_number}
use Rattle.plan_facts.specs.PlanChanges.{with_fact, with_field, with_value, without_fact}
use Rattle.plan_facts.specs.declared.record.Raw.{Raw}
use Rattle.plan_changes.specs.Deeds.{gives_fields, is_add, is_weight}
use Rattle.plan_changes.specs.Named.{value_given}
use Rattle.plan_changes.specs.Ready.{ReadyView}
use Rattle.plan_changes.specs.declared.change.Deed.{Deed}
use Rattle.plan_changes.specs.declared.change.Deed.TheVariants as deed
use Rattle.plan_changes.specs.declared.change.Item.{Item}
use Rattle.plan_changes.specs.declared.change.Item.TheVariants.{Num, Name}

-- the text that a field gets, if it gets one
abbrev pub text_in : Option Item → List (List ℕ)
text_in None = []
text_in (Some (Num number)) = []
text_in (Some (Name text)) = text ∷ []

-- the texts that fields get, in the order of the fields
abbrev pub texts_in : List (Option Item) → List (List ℕ)
texts_in items = flat_map text_in items

-- the texts that a change gives fields
abbrev pub texts_of : ReadyView → List (List ℕ)
texts_of ready = if gives_fields ready.deed then texts_in ready.fields else []

-- the names with these texts among them, in the order of first sight
abbrev pub numbered : List (List ℕ) → List (List ℕ) → List (List ℕ)
numbered names texts = fold with_name names texts

-- the names after a change: new ones are numbered in the order of the fields that hold them
abbrev pub names_after : ReadyView → List (List ℕ) → List (List ℕ)
names_after ready names = numbered names (texts_of ready)

-- what a field gets: the number, or the number of the name
abbrev pub item_number : List (List ℕ) → Item → ℤ
item_number names (Num number) = number
item_number names (Name text) = pos (number_of names text)

-- what a field of a new fact holds
abbrev pub number_given : List (List ℕ) → Option Item → ℤ
number_given names item = option_map_or (item_number names) item (pos 0)

-- a plan with a field of a fact set, if it gets something
abbrev pub with_item : List (List ℕ) → ℕ → ℕ → PlanView → ℕ × Option Item → PlanView
with_item names class id plan at =
    option_map_or (λ item. with_field plan class id at.0 (item_number names item)) at.1 plan

-- a plan with a variable of a fact set, if it gets something
abbrev pub with_choice : ℕ → ℕ → PlanView → ℕ × Option (Option ℕ) → PlanView
with_choice class id plan at = option_map_or (λ value. with_value plan class id at.0 value) at.1 plan

-- a plan with the fields of a fact set that get something
abbrev pub altered : List (List ℕ) → ℕ → ℕ → List (Option Item) → PlanView → PlanView
altered names class id fields plan = fold (with_item names class id) plan (enumerate_from 0 fields)

-- a plan with the variables of a fact set that get something
abbrev pub assigned : ℕ → ℕ → List (Option (Option ℕ)) → PlanView → PlanView
assigned class id values plan = fold (with_choice class id) plan (enumerate_from 0 values)

-- a plan after a deed, fields being given the numbers of these names
abbrev pub plan_by : Deed → ReadyView → List (List ℕ) → PlanView → PlanView
plan_by deed.Add ready names plan =
    with_fact plan ready.class (map (number_given names) ready.fields) (map value_given ready.values)
plan_by deed.Remove ready names plan = without_fact plan ready.class ready.id
plan_by deed.Alter ready names plan = altered names ready.class ready.id ready.fields plan
plan_by deed.Assign ready names plan = assigned ready.class ready.id ready.values plan
plan_by deed.Weight ready names plan = plan

-- the plan after a change
unfoldable pub plan_after : ReadyView → List (List ℕ) → PlanView → PlanView
plan_after ready names plan = plan_by ready.deed ready (names_after ready names) plan

-- the weights of the rules after a change
abbrev pub weights_after : ReadyView → List ℕ → List ℕ
weights_after ready weights = if is_weight ready.deed then slice_set weights ready.rule ready.weight else weights

-- what a field gets, if anything, is no number out of range
abbrev pub is_in_range : Option Item → Bool
is_in_range None = true
is_in_range (Some (Num number)) = is_field_number number
is_in_range (Some (Name text)) = true

-- what a variable gets, if anything, is null or a live fact of its value class
abbrev pub IsChoice : PlanView → ℕ → Option (Option ℕ) → Type 0
IsChoice plan range value = IsTrue (is_value_of plan range (value_given value))

-- what a change gives a fact fits its class: its fields get no number out of range, its variables values that they may hold
pub record FitsClass (ready : ReadyView) (plan : PlanView) : Type 0 where
  pub there : ready.class < length plan.classes
  pub few_fields : length ready.fields ≤ 16
  pub few_values : length ready.values ≤ 2
  pub numbers : All (λ item. IsTrue (is_in_range item)) ready.fields
  pub values : AllZip (IsChoice plan) (class_of plan ready.class).ranges ready.values

-- the fact that a change makes has the fields of its class, may be made, and gets the id that was meant
pub record IsNext (ready : ReadyView) (plan : PlanView) : Type 0 where
  pub fields : length ready.fields ≡ (class_of plan ready.class).fields
  pub id : ready.id ≡ next_id_of plan ready.class
  pub made : plan.made < fact_limit

-- a record has the fields and variables that a change may be about
pub record FitsRecord (ready : ReadyView) (raw : Raw) : Type 0 where
  pub fields : length ready.fields ≡ length raw.fields
  pub values : length ready.values ≡ length raw.values

-- the fact that a change is about is there
abbrev pub IsThere : ReadyView → PlanView → Type 0
IsThere ready plan = IsSomeAnd (fact_of plan ready.class ready.id) (FitsRecord ready)

-- a change of a fact may be made: the fact is there or may be made, and what it is given fits its class
pub record MayPerformFact (ready : ReadyView) (plan : PlanView) : Type 0 where
  pub fits : FitsClass ready plan
  pub next : is_add ready.deed ≡ true → IsNext ready plan
  pub there : is_add ready.deed ≡ false → IsThere ready plan

-- a change may be made of a plan with so many rules
pub record MayPerform (ready : ReadyView) (plan : PlanView) (rules : ℕ) : Type 0 where
  pub rule : is_weight ready.deed ≡ true → ready.rule < rules
  pub fact : is_weight ready.deed ≡ false → MayPerformFact ready plan

-- there are at most 10^9 - 16 names, or none is new
abbrev pub HasRoom : ReadyView → List (List ℕ) → Type 0
HasRoom ready names = (length names + 16 ≤ field_limit) ⊎ (names_after ready names ≡ names)
