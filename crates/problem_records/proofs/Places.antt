-- How a loop over records and classes finds the first fault.
use Rattle.std.proofs.Common.{◌≡◌, ◌∙◌, ℕ, ◌+◌, ◌<◌, ◌≤◌, List, Option, Some, None, length, take, drop, get_or, slice_get, map, sym, ap, arith}
use Rattle.std.specs.Option.{option_or}
use Rattle.std.proofs.lemmas.List.{length-map, length-take-le, get_or-map}
use Rattle.std.proofs.lemmas.Option.{get_or_from_slice_get}
use Rattle.serde_json.specs.Data.{Data}
use Rattle.serde_json.specs.View.{view}
use Rattle.serde_json.specs.declared.value.Value.{Value}
use Rattle.plan_facts.specs.First.{first_fault}
use Rattle.plan_facts.specs.declared.record.ClassDef.{ClassDef}
use Rattle.plan_facts.proofs.FirstLaws.{first_fault-from, first_fault-end}
use Rattle.problem_records.specs.Shapes.{record_shape_at, record_shape_fault}

-- what stands from a record on is judged by that record first
pub entry_at : {F : Type 0} (fault_of : List Data → Data → Option F) (records : List Value) (k : ℕ) (entry : Value) → k < length records → entry ≡ get_or records k entry →
    first_fault fault_of (take k (map view records)) (drop k (map view records)) ≡ option_or (fault_of (take k (map view records)) (view entry)) (first_fault fault_of (take (k + 1) (map view records)) (drop (k + 1) (map view records)))
entry_at fault_of records k entry within at =
    let long = length-map records view in
    let there : view entry ≡ get_or (map view records) k (view entry) = sym (get_or-map view records k entry (view entry) within ∙ ap view (sym at)) in
    first_fault-from fault_of (map view records) k (view entry) (omega arith) there

-- its place is the number of those before it
pub record_at : (class : ClassDef) (records : List Value) (k : ℕ) (entry : Value) → k < length records → entry ≡ get_or records k entry →
    first_fault (record_shape_fault class) (take k (map view records)) (drop k (map view records)) ≡ option_or (record_shape_at class k (view entry)) (first_fault (record_shape_fault class) (take (k + 1) (map view records)) (drop (k + 1) (map view records)))
record_at class records k entry within at =
    let long = length-map records view in
    let count : length (take k (map view records)) ≡ k = length-take-le k (map view records) (omega arith) in
    entry_at (record_shape_fault class) records k entry within at
    ∙ ap (λ (n : ℕ). option_or (record_shape_at class n (view entry)) (first_fault (record_shape_fault class) (take (k + 1) (map view records)) (drop (k + 1) (map view records)))) count

-- past the last record there is no fault
pub records_end : (class : ClassDef) (records : List Value) (k : ℕ) → length records ≤ k → first_fault (record_shape_fault class) (take k (map view records)) (drop k (map view records)) ≡ None
records_end class records k past = let long = length-map records view in first_fault-end (record_shape_fault class) (map view records) k (omega arith)

-- what stands from a class on is judged by that class first
pub class_at : {F : Type 0} (fault_of : List ClassDef → ClassDef → Option F) (classes : List ClassDef) (k : ℕ) (class : ClassDef) → k < length classes → slice_get classes k ≡ Some class →
    first_fault fault_of (take k classes) (drop k classes) ≡ option_or (fault_of (take k classes) class) (first_fault fault_of (take (k + 1) classes) (drop (k + 1) classes))
class_at fault_of classes k class within at = first_fault-from fault_of classes k class within (sym (get_or_from_slice_get classes k class class at))
