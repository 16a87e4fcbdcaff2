-- What holds of classes that have no fault.
use Rattle.std.proofs.Common.{◌≡◌, ℕ, ◌≤◌, Bool, true, false, List, [], Some, None, length, refl, arith, nat_lt, if◌then◌else◌}
use Rattle.std.specs.Prelude.{All, IsTrue}
use Rattle.std.proofs.lemmas.Bool.Decides.{nat_tests}
use Rattle.plan_facts.specs.First.{first_fault}
use Rattle.plan_facts.specs.Schema.{field_count_fault, var_count_fault, name_fault, range_fault, schema_fault, HasFewMembers, HasRanges}
use Rattle.plan_facts.specs.declared.record.ClassDef.{ClassDef}
use Rattle.plan_facts.proofs.FirstLaws.{first_fault-none, option_or-none}

-- a number that isn't above the greatest one that is allowed
not_above : {F : Type 0} (most n : ℕ) (fault : F) → (if nat_lt most n then Some fault else None) ≡ None → n ≤ most
not_above most n fault h = grind (arith, nat_tests)

-- what must hold and isn't refused does
not_refused : {F : Type 0} (b : Bool) (fault : F) → (if b then None else Some fault) ≡ None → IsTrue b
not_refused true fault h = refl
not_refused false fault h = cc

-- classes with no fault in the counts of their members have few of them
pub few_members : (classes : List ClassDef) → first_fault field_count_fault [] classes ≡ None → first_fault var_count_fault [] classes ≡ None → All HasFewMembers classes
few_members classes fields vars k d lt = record {
  fields = not_above 16 _ _ (first_fault-none field_count_fault [] classes fields k d lt);
  vars = not_above 2 _ _ (first_fault-none var_count_fault [] classes vars k d lt);
}

-- classes with no fault in their ranges have ranges
pub each_range : (classes : List ClassDef) → first_fault (range_fault classes) [] classes ≡ None → All (HasRanges classes) classes
each_range classes ranges k d lt j v less =
    not_refused _ _ (first_fault-none _ [] _ (first_fault-none (range_fault classes) [] classes ranges k d lt) j v less)

-- the classes of a schema have few members
pub few_members_of : (classes : List ClassDef) → schema_fault classes ≡ None → All HasFewMembers classes
few_members_of classes none =
    let after_classes = (option_or-none (if nat_lt 16 (length classes) then _ else None) _ none).1 in
    let after_fields = option_or-none (first_fault field_count_fault [] classes) _ after_classes in
    let after_vars = option_or-none (first_fault var_count_fault [] classes) _ after_fields.1 in
    few_members classes after_fields.0 after_vars.0

-- the variables of a schema's classes have ranges
pub each_range_of : (classes : List ClassDef) → schema_fault classes ≡ None → All (HasRanges classes) classes
each_range_of classes none =
    let after_classes = (option_or-none (if nat_lt 16 (length classes) then _ else None) _ none).1 in
    let after_fields = (option_or-none (first_fault field_count_fault [] classes) _ after_classes).1 in
    let after_vars = (option_or-none (first_fault var_count_fault [] classes) _ after_fields).1 in
    each_range classes (option_or-none (first_fault name_fault [] classes) _ after_vars).1
