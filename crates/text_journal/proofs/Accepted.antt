-- Classes and rules that are accepted have names.
use Rattle.std.proofs.Common.{◌≡◌, ◌∙◌, ℕ, ◌<◌, Bool, true, false, not, ◌||◌, List, [], ◌∷◌, None, take, get_or, length, nat_lt, refl, sym}
use Rattle.std.specs.Prelude.{All, IsTrue, map}
use Rattle.std.specs.List.{list_all, list_any}
use Rattle.std.specs.Option.{option_or}
use Rattle.std.specs.Str.{bytes_eq}
use Rattle.std.proofs.lemmas.Bool.{and_parts, not-false, or_parts}
use Rattle.std.proofs.lemmas.List.Elements.{All-weaker}
use Rattle.std.proofs.lemmas.List.Folds.{list_all-append, list_all-map}
use Rattle.std.proofs.lemmas.List.Sums.{AllPass-from_list_all}
use Rattle.plan_facts.specs.First.{fault_where, first_fault}
use Rattle.plan_facts.specs.Schema.{field_count_fault, has_bad_name, has_double, is_free_name, is_name, member_names, name_fault, range_fault, schema_fault, var_count_fault}
use Rattle.plan_facts.specs.declared.record.ClassDef.{ClassDef}
use Rattle.plan_facts.specs.declared.schema.SchemaFault.TheVariants as schema
use Rattle.plan_facts.proofs.FirstLaws.{first_fault-none, option_or-none}
use Rattle.plan_rules.specs.Faults as faults
use Rattle.plan_rules.specs.Faults.{closures_fault, defs_fault, harders_fault, rule_fault, rules_fault}
use Rattle.plan_rules.specs.declared.places.Numbers.{Numbers}
use Rattle.plan_rules.specs.declared.rule.Harder.{Harder}
use Rattle.plan_rules.specs.declared.rule.RuleDef.{RuleDef}
use Rattle.plan_rules.specs.declared.fault.RuleFault.TheVariants as rule
use Rattle.text_journal.specs.Laws.{AcceptedHaveNames}

-- a test that refuses nothing doesn't hold
unrefused : {F : Type 0} (test : Bool) (fault : F) → fault_where test fault ≡ None → test ≡ false
unrefused false fault none = refl
unrefused true fault none = cc

-- a class whose names aren't bad, and its variables, have names
class_named : (earlier : List ClassDef) (class : ClassDef) → has_bad_name earlier class ≡ false
    → IsTrue (is_name class.name) × All (λ var. IsTrue (is_name var.name)) class.vars
class_named earlier class good =
    let free = list_all is_free_name (class.name ∷ member_names class) in
    let taken = list_any (λ c. bytes_eq class.name c.name) earlier in
    let first = or_parts (not free || taken) (has_double (member_names class)) good in
    let each = and_parts (is_free_name class.name) (list_all is_free_name (member_names class))
    (not-false free (or_parts (not free) taken first.0).0) in
    let fields = map (λ f. f.name) class.fields in
    let vars = map (λ v. v.name) class.vars in
    let of_vars = and_parts (list_all is_free_name fields) (list_all is_free_name vars)
    (sym (list_all-append is_free_name fields vars) ∙ each.1) in
    let passes = AllPass-from_list_all (λ v. is_free_name v.name) class.vars
    (sym (list_all-map is_free_name (λ v. v.name) class.vars) ∙ of_vars.1) in (
      (and_parts (is_name class.name) _ each.0).0,
      All-weaker (λ v. is_free_name v.name ≡ true) (λ v. IsTrue (is_name v.name))
          (λ v pass. (and_parts (is_name v.name) _ pass).0) class.vars passes,
    )

-- so have the classes of a schema
classes_named : (classes : List ClassDef) → schema_fault classes ≡ None → (k : ℕ) (d : ClassDef) → k < length classes
    → IsTrue (is_name (get_or classes k d).name) × All (λ var. IsTrue (is_name var.name)) (get_or classes k d).vars
classes_named classes none k d within =
    let counts = option_or-none (fault_where (nat_lt 16 (length classes)) schema.TooManyClasses) _ none in
    let fields = option_or-none (first_fault field_count_fault [] classes) _ counts.1 in
    let vars = option_or-none (first_fault var_count_fault [] classes) _ fields.1 in
    let names = option_or-none (first_fault name_fault [] classes)
    (first_fault (range_fault classes) [] classes) vars.1 in
    class_named (take k classes) (get_or classes k d)
    (unrefused _ (schema.BadName (length (take k classes))) (first_fault-none name_fault [] classes names.0 k d within))

-- and the rules that are accepted
rules_named : (classes : List ClassDef) (numbers : Numbers) (rules : List RuleDef) (harder : List Harder)
    → rules_fault classes numbers rules harder ≡ None
    → All (λ rule. IsTrue (is_name rule.name)) rules
unfolding rules_fault
rules_named classes numbers rules harder none k d within =
    let closures = option_or-none (closures_fault numbers)
    (option_or (defs_fault (length classes) numbers rules) (harders_fault classes numbers harder)) none in
    let defs = option_or-none (defs_fault (length classes) numbers rules)
    (harders_fault classes numbers harder) closures.1 in
    let each = option_or-none (fault_where (nat_lt 32 (length rules)) rule.TooManyRules)
    (first_fault (rule_fault (length classes) numbers) [] rules) defs.0 in
    let one = get_or rules k d in
    let earlier = take k rules in
    let name = option_or-none (fault_where (faults.has_bad_name earlier one) (rule.BadName (length earlier))) _
    (first_fault-none (rule_fault (length classes) numbers) [] rules each.1 k d within) in
    let good = or_parts (not (is_name one.name)) (list_any (λ other. bytes_eq one.name other.name) earlier)
    (unrefused (faults.has_bad_name earlier one) (rule.BadName (length earlier)) name.0) in
    not-false (is_name one.name) good.0

-- both have names
pub accepted_have_names : AcceptedHaveNames
accepted_have_names classes numbers rules harder schema accepted = record {
  classes = λ k d within. (classes_named classes schema k d within).0;
  vars = λ k d within. (classes_named classes schema k d within).1;
  rules = rules_named classes numbers rules harder accepted;
}
