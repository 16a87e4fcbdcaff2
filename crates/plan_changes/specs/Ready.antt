-- What a change comes to, once its names were looked up.
use Rattle.std.specs.Prelude.{ℕ, List, [], Option, unwrap_or, if◌then◌else◌}
use Rattle.plan_facts.specs.Plan.{PlanView, next_id_of}
use Rattle.plan_facts.specs.declared.record.ClassDef.{ClassDef}
use Rattle.plan_changes.specs.Change.{ChangeView}
use Rattle.plan_changes.specs.Deeds.{is_add, is_weight}
use Rattle.plan_changes.specs.Named.{class_named, rule_named, def_of, items_for, values_for}
use Rattle.plan_changes.specs.declared.change.Deed.{Deed}
use Rattle.plan_changes.specs.declared.change.Item.{Item}

-- a change with the numbers of what it names: what it does; the class and id of a fact, and what each field and each variable
-- of the class gets, if anything; a rule and its weight
pub record ReadyView : Type 0 where
  pub deed : Deed
  pub class : ℕ
  pub id : ℕ
  pub fields : List (Option Item)
  pub values : List (Option (Option ℕ))
  pub rule : ℕ
  pub weight : ℕ

-- the change of these parts
abbrev pub ready_view : Deed → ℕ → ℕ → List (Option Item) → List (Option (Option ℕ)) → ℕ → ℕ → ReadyView
ready_view deed class id fields values rule weight =
    record {
      deed = deed;
      class = class;
      id = id;
      fields = fields;
      values = values;
      rule = rule;
      weight = weight;
    }

-- the change of a rule's weight
abbrev pub of_rule : Deed → ℕ → ℕ → ReadyView
of_rule deed rule weight = ready_view deed 0 0 [] [] rule weight

-- the id of the fact that a change is about: where it makes one, the next id of its class
abbrev pub id_of : PlanView → ℕ → ChangeView → ℕ
id_of plan class change = if is_add change.deed then next_id_of plan class else change.id

-- what a change of a fact of this class comes to
abbrev pub ready_fact : PlanView → ℕ → ClassDef → ChangeView → ReadyView
ready_fact plan class def change =
    let fields = items_for change.fields def in
    let values = values_for change.values def in
    ready_view change.deed class (id_of plan class change) fields values 0 0

-- what a change of a fact comes to that isn't refused
abbrev pub ready_fact_of : List ClassDef → PlanView → ChangeView → ReadyView
ready_fact_of classes plan change =
    let class = unwrap_or (class_named classes change.class) 0 in
    ready_fact plan class (def_of classes class) change

-- what a change of a rule's weight comes to that isn't refused
abbrev pub ready_rule_of : List (List ℕ) → ChangeView → ReadyView
ready_rule_of rules change = of_rule change.deed (unwrap_or (rule_named rules change.rule) 0) change.weight

-- what a change comes to that isn't refused
unfoldable pub ready_of : List ClassDef → PlanView → List (List ℕ) → ChangeView → ReadyView
ready_of classes plan rules change =
    if is_weight change.deed then ready_rule_of rules change else ready_fact_of classes plan change
