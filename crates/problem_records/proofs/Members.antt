-- The names of a class's members, as the program asks for them.
use Rattle.std.proofs.Common.{◌≡◌, ◌∙◌, ℕ, List, ◌||◌, map}
use Rattle.std.specs.List.{list_any}
use Rattle.std.specs.Str.{bytes_eq}
use Rattle.std.proofs.lemmas.List.Folds.{list_any-append}
use Rattle.json_values.proofs.Reading.{list_any-map}
use Rattle.plan_facts.specs.Schema.{member_names}
use Rattle.plan_facts.specs.declared.record.ClassDef.{ClassDef}
use Rattle.plan_facts.specs.declared.record.FieldDef.{FieldDef}
use Rattle.plan_facts.specs.declared.record.VarDef.{VarDef}

-- the names of fields and variables, in a row
pub any_member : (class : ClassDef) (name : List ℕ) →
    list_any (bytes_eq name) (member_names class) ≡ (list_any (λ field. bytes_eq name field.name) class.fields || list_any (λ var. bytes_eq name var.name) class.vars)
any_member class name =
    let fields = list_any-map (λ (f : FieldDef). f.name) (bytes_eq name) class.fields in
    let vars = list_any-map (λ (v : VarDef). v.name) (bytes_eq name) class.vars in
    list_any-append (bytes_eq name) (map (λ f. f.name) class.fields) (map (λ v. v.name) class.vars) ∙ (λ i. fields i || vars i)
