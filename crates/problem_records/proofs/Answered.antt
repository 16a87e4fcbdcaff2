-- What the reading of the records answers.
use Rattle.std.proofs.Common.{◌≡◌, ◌∙◌, ℕ, ◌<◌, ◌≤◌, true, false, cond, List, [], Option, Some, None, is_some, unwrap_or, option_and_then, option_map, length, get_or, codes, inl, inr, refl, sym, ap, arith}
use Rattle.std.specs.Option.{option_or, option_map_or}
use Rattle.std.proofs.lemmas.Bool.Decides.{nat_tests}
use Rattle.serde_json.specs.Data.{Data}
use Rattle.serde_json.specs.Find.{get}
use Rattle.json_values.specs.Values.{items_of}
use Rattle.plan_facts.specs.First.{first_fault, fault_unless, fault_where}
use Rattle.plan_facts.specs.Limits.{fact_limit}
use Rattle.plan_facts.specs.PlanFaults.{plan_of, plan_fault}
use Rattle.plan_facts.specs.Refusal.{IsRefusal}
use Rattle.plan_facts.specs.declared.record.ClassDef.{ClassDef}
use Rattle.plan_facts.specs.declared.record.Raw.{Raw}
use Rattle.plan_facts.specs.declared.fault.PlanFault.{PlanFault}
use Rattle.plan_facts.specs.declared.fault.PlanFault.TheVariants.{Memory as PlanMemory}
use Rattle.plan_facts.proofs.FirstLaws.{first_fault-none, option_or-none}
use Rattle.plan_facts.proofs.PlanOf.{held_none}
use Rattle.problem_faults.specs.declared.fault.ProblemFault.{ProblemFault}
use Rattle.problem_faults.specs.declared.fault.ProblemFault.TheVariants.{Memory, TooManyFacts}
use Rattle.problem_records.specs.Records.{id_in}
use Rattle.problem_records.specs.Shapes.{may_be_pinned, bad_field, bad_variable, bad_member, record_shape_fault, list_shape_fault, class_shape_fault, shape_fault}
use Rattle.problem_records.specs.Facts.{names_of, raw_lists, raws_of}
use Rattle.problem_records.specs.Named.{named_fault}
use Rattle.problem_records.specs.RecordFaults.{count_of, are_too_many, contents_fault, values_fault, records_fault}
use Rattle.problem_records.proofs.Steps.{few_numbers}
use Rattle.problem_records.proofs.Classes.{HaveIds, plan_named}

nothing_mapped : {A B : Type 0} (f : A → B) (o : Option A) → option_map f o ≡ None → o ≡ None
nothing_mapped f None none = refl
nothing_mapped f (Some a) none = cc

-- records of the right shape have ids
items_have_ids : (class : ClassDef) (records : Option (List Data)) → list_shape_fault class records ≡ None → (k : ℕ) (d : Data) → k < length (unwrap_or records []) → is_some (id_in (codes "id") (get_or (unwrap_or records []) k d)) ≡ true
items_have_ids class None none k d lt = cc
items_have_ids class (Some records) none k d lt =
    let entry = get_or records k d in
    let here = first_fault-none (record_shape_fault class) [] records none k d lt in
    let members = (option_or-none _ _ (option_or-none _ _ here).1).0 in
    let member : bad_member class entry ≡ None = nothing_mapped _ (bad_member class entry) members in
    held_none (is_some (id_in (codes "id") entry)) (codes "id") (option_or-none _ (option_or (bad_field class entry) (option_or (bad_variable class entry) (fault_unless (may_be_pinned class entry) (codes "pinned")))) member).0

list_has_ids : (class : ClassDef) (list : Option Data) → option_map_or (λ value. list_shape_fault class (items_of value)) list None ≡ None
    → (k : ℕ) (d : Data) → k < length (unwrap_or (option_and_then items_of list) []) → is_some (id_in (codes "id") (get_or (unwrap_or (option_and_then items_of list) []) k d)) ≡ true
list_has_ids class None none k d lt = absurd (omega arith)
list_has_ids class (Some value) none k d lt = items_have_ids class (items_of value) none k d lt

have_ids : (classes : List ClassDef) (facts : Data) → shape_fault classes facts ≡ None → HaveIds classes facts
have_ids classes facts none n c within k d lt =
    let class = get_or classes n c in
    list_has_ids class (get class.name facts) (first_fault-none (class_shape_fault facts) [] classes (option_or-none (first_fault (class_shape_fault facts) [] classes) _ none).0 n c within) k d lt

-- the shape counts first
pub shape_counts : (classes : List ClassDef) (facts : Data) → records_fault classes facts ≡ option_or (shape_fault classes facts) (option_or (fault_where (are_too_many classes facts) TooManyFacts) (option_or (contents_fault classes facts) (values_fault classes facts)))
unfolding records_fault
shape_counts classes facts = refl

-- then the number of records
pub number_counts : (classes : List ClassDef) (facts : Data) → shape_fault classes facts ≡ None → are_too_many classes facts ≡ true → records_fault classes facts ≡ Some TooManyFacts
number_counts classes facts shape many = shape_counts classes facts ∙ rw (shape, many) refl

-- then ids and fields, then values
pub contents_count : (classes : List ClassDef) (facts : Data) → shape_fault classes facts ≡ None → are_too_many classes facts ≡ false → records_fault classes facts ≡ option_or (contents_fault classes facts) (values_fault classes facts)
contents_count classes facts shape few = shape_counts classes facts ∙ rw (shape, few) refl

-- the records have been given to a plan
pub record IsGiven (classes : List ClassDef) (facts : Data) (names : List (List ℕ)) (lists : List (List Raw)) : Type 0 where
  pub shape : shape_fault classes facts ≡ None
  pub few : are_too_many classes facts ≡ false
  pub good : contents_fault classes facts ≡ None
  pub named : names ≡ names_of classes facts
  pub small : length names ≤ 1000000000
  pub listed : lists ≡ raw_lists names classes facts

-- the plan's fault, named, is that of the records
named : (classes : List ClassDef) (facts : Data) (names : List (List ℕ)) (lists : List (List Raw)) → IsGiven classes facts names lists → records_fault classes facts ≡ option_map (named_fault classes) (plan_fault classes lists)
named classes facts names lists given =
    let few : count_of classes facts ≤ fact_limit = (let test = given.few in grind (arith, nat_tests)) in
    contents_count classes facts given.shape given.few
    ∙ ap (λ o. option_or o (values_fault classes facts)) given.good
    ∙ plan_named classes facts names few (few_numbers names given.small) (have_ids classes facts given.shape) given.good
    ∙ ap (λ all. option_map (named_fault classes) (plan_fault classes all)) (sym given.listed)

-- where the plan has none, the records have none
pub no_fault : (classes : List ClassDef) (facts : Data) (names : List (List ℕ)) (lists : List (List Raw)) → IsGiven classes facts names lists → plan_fault classes lists ≡ None → records_fault classes facts ≡ None
no_fault classes facts names lists given none = named classes facts names lists given ∙ ap (option_map (named_fault classes)) none

-- the plan is that of the records
pub same_plan : (classes : List ClassDef) (facts : Data) (names : List (List ℕ)) (lists : List (List Raw)) → IsGiven classes facts names lists → plan_of classes lists ≡ plan_of classes (raws_of classes facts)
unfolding raws_of
same_plan classes facts names lists given =
    ap (plan_of classes) (given.listed ∙ ap (λ (all : List (List ℕ)). raw_lists all classes facts) given.named)

-- the plan's refusal, named, is that of the records
pub refused_by_name : (classes : List ClassDef) (facts : Data) (names : List (List ℕ)) (lists : List (List Raw)) (fault : PlanFault) → IsGiven classes facts names lists → IsRefusal PlanMemory (plan_fault classes lists) fault
    → IsRefusal Memory (records_fault classes facts) (named_fault classes fault)
refused_by_name classes facts names lists fault given refused = elim refused [
  | inl memory ↦ inl (ap (named_fault classes) memory)
  | inr found ↦ inr (named classes facts names lists given ∙ ap (option_map (named_fault classes)) found)
]
