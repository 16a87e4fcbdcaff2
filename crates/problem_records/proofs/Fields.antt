-- The fields, values and ids of a record, as its class judges them and as a plan does.
use Rattle.std.proofs.Common.{◌≡◌, ◌∙◌, ℕ, ◌≤◌, ◌==◌, Bool, true, false, cond, ◌||◌, ◌&&◌, nat_lt, nat_le, ℤ, pos, negsuc, List, [], ◌∷◌, Option, Some, None, is_some, unwrap_or, option_and_then, option_map, length, take, map, zip, slice_get, get_or, codes, refl, sym, ap, arith}
use Rattle.std.specs.Option.{option_map_or}
use Rattle.std.proofs.lemmas.List.{length-map, length-take-le}
use Rattle.std.proofs.lemmas.Option.{slice_get-get_or}
use Rattle.std.proofs.lemmas.Bool.Decides.{nat_tests}
use Rattle.serde_json.specs.Data.{Data}
use Rattle.serde_json.specs.Find.{get}
use Rattle.json_values.specs.Values.{within, whole_number, number_within}
use Rattle.plan_facts.specs.First.{first_fault}
use Rattle.plan_facts.specs.Names.{number_of}
use Rattle.plan_facts.specs.Plan.{record_with_id}
use Rattle.plan_facts.specs.PlanFaults.{is_field_number, number_fault, is_bad_id, ranges_of}
use Rattle.plan_facts.specs.PlanFaults.{fields_fault as plan_fields_fault, value_fault as plan_value_fault, values_fault as plan_values_fault, record_fault as plan_record_fault}
use Rattle.plan_facts.specs.declared.record.ClassDef.{ClassDef}
use Rattle.plan_facts.specs.declared.record.FieldDef.{FieldDef}
use Rattle.plan_facts.specs.declared.record.VarDef.{VarDef}
use Rattle.plan_facts.specs.declared.record.Kind.{Kind}
use Rattle.plan_facts.specs.declared.record.Kind.TheVariants.{Number, Name}
use Rattle.plan_facts.specs.declared.record.Raw.{Raw}
use Rattle.plan_facts.specs.declared.fault.PlanFault.TheVariants.{BadValue as BadPlanValue}
use Rattle.problem_faults.specs.declared.fault.ProblemFault.TheVariants.{BadValue}
use Rattle.plan_facts.proofs.FirstLaws.{first_fault-none, option_or-none}
use Rattle.plan_facts.proofs.Places.{eqb_same}
use Rattle.plan_facts.proofs.PlanOf.{held_none}
use Rattle.problem_records.specs.Records.{id_in, id_of}
use Rattle.problem_records.specs.Facts.{by_kind, number_in, text_in, field_number, field_numbers, values_in, raw_of}
use Rattle.problem_records.specs.Named.{class_name, var_name_in, named_fault}
use Rattle.problem_records.specs.RecordFaults.{has_id, is_short_name, is_good_field, id_fault, field_fault, fields_fault, record_fault, value_fault, record_values_fault, has_record}
use Rattle.problem_records.proofs.Firsts.{named_first, named_unless, none_made, zip-map_both, option_or-none_right}

-- a number from 0 to 10^9 is one that a field may hold
small_number : (n : ℕ) → n ≤ 1000000000 → is_field_number (pos n) ≡ true
small_number n few = grind (arith, nat_tests)

good_number : (kind : Kind) (number : ℤ) (n : ℕ) (short : Bool) → n ≤ 1000000000 → by_kind kind (is_field_number number) short ≡ true → is_field_number (by_kind kind number (pos n)) ≡ true
good_number Number number n short few good = good
good_number Name number n short few good = small_number n few

-- a field in range is a number that a plan takes
in_range : (names : List (List ℕ)) (entry : Data) (field : FieldDef) → ((text : List ℕ) → number_of names text ≤ 1000000000) → is_good_field entry field ≡ true → is_field_number (field_number names entry field) ≡ true
in_range names entry field few good =
    good_number field.kind (number_in field.name entry) (number_of names (text_in field.name entry)) (is_short_name (text_in field.name entry)) (few (text_in field.name entry)) good

-- fields in range are those that a plan takes
fields_taken : (n : ℕ) (class : ClassDef) (names : List (List ℕ)) (entry : Data) → ((text : List ℕ) → number_of names text ≤ 1000000000) → fields_fault class entry ≡ None
    → plan_fields_fault n (id_of entry) (length class.fields) (field_numbers names class entry) ≡ None
fields_taken n class names entry few none =
    let right = eqb_same (length (field_numbers names class entry)) (length class.fields) (length-map class.fields (field_number names entry)) in
    rw right
    (none_made (field_number names entry) (number_fault n (id_of entry)) [] class.fields (λ k d lt.
    let field = get_or class.fields k d in
    let good : is_good_field entry field ≡ true = held_none (is_good_field entry field) _ (first_fault-none (field_fault class entry) [] class.fields none k d lt) in
    rw (in_range names entry field few good) refl))

-- an id that is read is from 1 to 10^9
record IsId (id : ℕ) : Type 0 where
  low : nat_lt id 1 ≡ false
  high : nat_lt 1000000000 id ≡ false

within_is : (number : ℤ) → is_some (within 1 1000000000 number) ≡ true → IsId (unwrap_or (within 1 1000000000 number) 0)
within_is (negsuc n) there = cc
within_is (pos n) there = tested (nat_le 1 n) (nat_le n 1000000000) refl refl there
  where
    tested : (low high : Bool) → nat_le 1 n ≡ low → nat_le n 1000000000 ≡ high → is_some (cond (low && high) (Some n) None) ≡ true → IsId (unwrap_or (cond (low && high) (Some n) None) 0)
    tested true true low_is high_is there = record { low = grind (arith, nat_tests); high = grind (arith, nat_tests) }
    tested true false low_is high_is there = cc
    tested false high low_is high_is there = cc

number_is : (number : Option ℤ) → is_some (option_and_then (within 1 1000000000) number) ≡ true → IsId (unwrap_or (option_and_then (within 1 1000000000) number) 0)
number_is None there = cc
number_is (Some number) there = within_is number there

member_is : (value : Option Data) → is_some (option_and_then (number_within 1 1000000000) value) ≡ true → IsId (unwrap_or (option_and_then (number_within 1 1000000000) value) 0)
member_is None there = cc
member_is (Some value) there = number_is (whole_number value) there

-- one of some records has an id just where one of those of the plan has it
pub has_raw : (names : List (List ℕ)) (class : ClassDef) (entries : List Data) (id : ℕ) → is_some (record_with_id id (map (raw_of names class) entries)) ≡ has_id entries id
has_raw names class [] id = refl
has_raw names class (entry ∷ entries) id = stepped (id_of entry == id) _ _ (raw_of names class entry) (has_raw names class entries id)
  where
    stepped : (here : Bool) (there : Option Raw) (rest : Bool) (raw : Raw) → is_some there ≡ rest → is_some (cond here (Some raw) there) ≡ (here || rest)
    stepped true there rest raw same = refl
    stepped false there rest raw same = same

not_held : {F : Type 0} (b : Bool) (fault : F) → cond b (Some fault) None ≡ None → b ≡ false
not_held true fault h = cc
not_held false fault h = refl

-- a record without a fault is one that a plan takes
pub record_taken : (n : ℕ) (class : ClassDef) (names : List (List ℕ)) (earlier : List Data) (entry : Data) → ((text : List ℕ) → number_of names text ≤ 1000000000) → is_some (id_in (codes "id") entry) ≡ true
    → record_fault class earlier entry ≡ None → plan_record_fault n (length class.fields) (map (raw_of names class) earlier) (raw_of names class entry) ≡ None
record_taken n class names earlier entry few has none =
    let is = member_is (get (codes "id") entry) has in
    let parts = option_or-none (id_fault class earlier entry) (fields_fault class entry) none in
    let new = not_held (has_id earlier (id_of entry)) _ parts.0 in
    let good : is_bad_id (map (raw_of names class) earlier) (id_of entry) ≡ false = rw (is.low, is.high) (has_raw names class earlier (id_of entry) ∙ new) in
    rw good (fields_taken n class names entry few parts.1)

-- the values of a record
pub values_named : (classes : List ClassDef) (facts : Data) (n : ℕ) (class : ClassDef) (earlier : List Data) (entry : Data) → slice_get classes n ≡ Some class →
    record_values_fault classes facts class earlier entry ≡ option_map (named_fault classes) (plan_values_fault (has_record classes facts) n (id_of entry) (ranges_of class) (values_in class entry))
values_named classes facts n class earlier entry at =
    let value : VarDef → Option ℕ = λ var. id_in var.name entry in
    let pair : VarDef → ℕ × Option ℕ = λ var. (var.values, id_in var.name entry) in
    let right = eqb_same (length (map value class.vars)) (length (ranges_of class)) (length-map class.vars value ∙ sym (length-map class.vars (λ var. var.values))) in
    rw (right, option_or-none_right (first_fault (plan_value_fault (has_record classes facts) n (id_of entry)) [] (zip (ranges_of class) (map value class.vars))), zip-map_both (λ (v : VarDef). v.values) value class.vars)
    (named_first (named_fault classes) pair (plan_value_fault (has_record classes facts) n (id_of entry)) (value_fault classes facts class entry) [] class.vars (λ k d lt.
    let var = get_or class.vars k d in
    let count : length (map pair (take k class.vars)) ≡ k = length-map (take k class.vars) pair ∙ length-take-le k class.vars (omega arith) in
    let named : class_name classes n ≡ class.name = ap (λ o. option_map_or (λ c. c.name) o []) at in
    let there : var_name_in class (length (map pair (take k class.vars))) ≡ var.name =
    ap (var_name_in class) count ∙ ap (λ o. option_map_or (λ v. v.name) o []) (slice_get-get_or class.vars k d lt) in
    let both = ap (λ o. option_map_or (λ c. var_name_in c (length (map pair (take k class.vars)))) o []) at ∙ there in
    named_unless (named_fault classes) _ (BadPlanValue n (id_of entry) (length (map pair (take k class.vars)))) (BadValue class.name (id_of entry) var.name) (λ i. BadValue (named i) (id_of entry) (both i))))
