-- The records of all classes, as their classes judge them and as a plan does.
use Rattle.std.proofs.Common.{◌≡◌, ◌∙◌, ℕ, ◌<◌, ◌≤◌, Bool, true, false, List, [], ◌∷◌, Option, Some, None, is_some, length, take, map, zip, slice_get, get_or, codes, sum_by, option_map, inl, inr, refl, sym, ap, arith}
use Rattle.std.specs.Option.{option_or, option_map_or}
use Rattle.std.proofs.lemmas.Bool.{cases_lt}
use Rattle.std.proofs.lemmas.List.{length-map, length-take-le, get_or-map}
use Rattle.std.proofs.lemmas.List.Sums.{sum_by-cons}
use Rattle.std.proofs.lemmas.Option.{slice_get-get_or, slice_get_past}
use Rattle.serde_json.specs.Data.{Data}
use Rattle.plan_facts.specs.First.{first_fault}
use Rattle.plan_facts.specs.Limits.{fact_limit}
use Rattle.plan_facts.specs.Names.{number_of}
use Rattle.plan_facts.specs.Plan.{ClassView, record_with_id, is_live}
use Rattle.plan_facts.specs.PlanFaults.{plan_of, plan_fault, ranges_of}
use Rattle.plan_facts.specs.PlanFaults.{class_fault as plan_class_fault, class_values_fault as plan_class_values_fault, record_fault as plan_record_fault, record_values_fault as plan_record_values_fault}
use Rattle.plan_facts.specs.declared.record.ClassDef.{ClassDef}
use Rattle.plan_facts.specs.declared.record.Raw.{Raw}
use Rattle.plan_facts.specs.declared.fault.PlanFault.{PlanFault}
use Rattle.plan_facts.proofs.FirstLaws.{first_fault-none}
use Rattle.plan_facts.proofs.Sound.{class_past}
use Rattle.plan_facts.proofs.PlanMade.{no_def, def_at, raws_at, class_of-plan_of, count_of-plan_of, live-by_id}
use Rattle.plan_facts.proofs.PlanChecked.{records_count}
use Rattle.problem_records.specs.Records.{records_of, id_in}
use Rattle.problem_records.specs.Facts.{raw_of, class_raws, raw_lists}
use Rattle.problem_records.specs.Named.{named_fault}
use Rattle.problem_records.specs.RecordFaults.{count_of, has_id, has_record, record_fault, list_fault, class_fault, contents_fault, record_values_fault, class_values_fault, values_fault}
use Rattle.problem_records.proofs.Firsts.{named_first, none_made, zip-map_right}
use Rattle.problem_records.proofs.Fields.{has_raw, record_taken, values_named}

-- each record of each class has an id
abbrev pub HaveIds : List ClassDef → Data → Type 0
HaveIds classes facts =
    (n : ℕ) (c : ClassDef) → n < length classes → (k : ℕ) (d : Data) → k < length (records_of facts (get_or classes n c)) → is_some (id_in (codes "id") (get_or (records_of facts (get_or classes n c)) k d)) ≡ true

-- the ids and fields of the records of a class
class_taken : (n : ℕ) (class : ClassDef) (names : List (List ℕ)) (facts : Data) → ((text : List ℕ) → number_of names text ≤ 1000000000)
    → ((k : ℕ) (d : Data) → k < length (records_of facts class) → is_some (id_in (codes "id") (get_or (records_of facts class) k d)) ≡ true)
    → list_fault class (records_of facts class) ≡ None → first_fault (plan_record_fault n (length class.fields)) [] (class_raws names facts class) ≡ None
class_taken n class names facts few has none =
    none_made (raw_of names class) (plan_record_fault n (length class.fields)) [] (records_of facts class) (λ k d lt.
    record_taken n class names (take k (records_of facts class)) (get_or (records_of facts class) k d) few (has k d lt) (first_fault-none (record_fault class) [] (records_of facts class) none k d lt))

-- the values of the records of a class
class_values_named : (classes : List ClassDef) (facts : Data) (n : ℕ) (class : ClassDef) (names : List (List ℕ)) → slice_get classes n ≡ Some class →
    first_fault (record_values_fault classes facts class) [] (records_of facts class) ≡ option_map (named_fault classes) (first_fault (plan_record_values_fault (has_record classes facts) n (ranges_of class)) [] (class_raws names facts class))
class_values_named classes facts n class names at =
    named_first (named_fault classes) (raw_of names class) (plan_record_values_fault (has_record classes facts) n (ranges_of class)) (record_values_fault classes facts class) [] (records_of facts class) (λ k d lt.
    values_named classes facts n class (take k (records_of facts class)) (get_or (records_of facts class) k d) at)

-- a class beside its records
abbrev with_raws : List (List ℕ) → Data → ClassDef → ClassDef × List Raw
with_raws names facts class = (class, class_raws names facts class)

count_front : (names : List (List ℕ)) (facts : Data) (classes : List ClassDef) (k : ℕ) → k < length classes → length (map (with_raws names facts) (take k classes)) ≡ k
count_front names facts classes k lt = length-map (take k classes) (with_raws names facts) ∙ length-take-le k classes (omega arith)

-- the ids and fields of all records
records_taken : (classes : List ClassDef) (facts : Data) (names : List (List ℕ)) → ((text : List ℕ) → number_of names text ≤ 1000000000) → HaveIds classes facts → contents_fault classes facts ≡ None →
    first_fault plan_class_fault [] (zip classes (raw_lists names classes facts)) ≡ None
records_taken classes facts names few has none =
    rw (zip-map_right (class_raws names facts) classes)
    (none_made (with_raws names facts) plan_class_fault [] classes (λ k d lt.
    let class = get_or classes k d in
    rw (count_front names facts classes k lt) (class_taken k class names facts few (has k d lt) (first_fault-none (class_fault facts) [] classes none k d lt))))

-- the values of all records
all_values_named : (classes : List ClassDef) (facts : Data) (names : List (List ℕ)) →
    values_fault classes facts ≡ option_map (named_fault classes) (first_fault (plan_class_values_fault (has_record classes facts)) [] (zip classes (raw_lists names classes facts)))
all_values_named classes facts names =
    rw (zip-map_right (class_raws names facts) classes)
    (named_first (named_fault classes) (with_raws names facts) (plan_class_values_fault (has_record classes facts)) (class_values_fault classes facts) [] classes (λ k d lt.
    let class = get_or classes k d in
    rw (count_front names facts classes k lt) (class_values_named classes facts k class names (slice_get-get_or classes k d lt))))

-- there is a list for each class
pub count_lists : (classes : List ClassDef) (facts : Data) (names : List (List ℕ)) → length (raw_lists names classes facts) ≡ length classes
count_lists classes facts names = length-map classes (class_raws names facts)

-- the lists have as many records as the facts
pub count_raws : (classes : List ClassDef) (facts : Data) (names : List (List ℕ)) → sum_by length (raw_lists names classes facts) ≡ count_of classes facts
count_raws [] facts names = refl
count_raws (class ∷ classes) facts names =
    let here = length-map (records_of facts class) (raw_of names class) in
    let rest = count_raws classes facts names in
    rw (sum_by-cons length (class_raws names facts class) (raw_lists names classes facts), sum_by-cons (λ c. length (records_of facts c)) class classes) (omega arith)

-- the plan has a record live just where the facts have it
live_raws : (classes : List ClassDef) (facts : Data) (names : List (List ℕ)) (n id : ℕ) → is_live (plan_of classes (raw_lists names classes facts)) n id ≡ has_record classes facts n id
live_raws classes facts names n id =
    let lists = raw_lists names classes facts in
    let same = count_lists classes facts names in
    elim (cases_lt n (length classes)) [
      | inl within ↦
          let at : raws_at lists n ≡ class_raws names facts (def_at classes n) = get_or-map (class_raws names facts) classes n no_def [] within in
          ap (λ (view : ClassView). is_some (record_with_id id view.facts)) (class_of-plan_of classes lists n same within)
          ∙ live-by_id (raws_at lists n) id
          ∙ ap (λ (raws : List Raw). is_some (record_with_id id raws)) at
          ∙ has_raw names (def_at classes n) (records_of facts (def_at classes n)) id
          ∙ sym (ap (λ (o : Option ClassDef). option_map_or (λ class. has_id (records_of facts class) id) o false) (slice_get-get_or classes n no_def within))
      | inr past ↦
          let count = count_of-plan_of classes lists same in
          ap (λ (view : ClassView). is_some (record_with_id id view.facts)) (class_past (plan_of classes lists) n (omega arith))
          ∙ sym (ap (λ (o : Option ClassDef). option_map_or (λ class. has_id (records_of facts class) id) o false) (slice_get_past classes n past))
    ]

-- where ids and fields are good, the plan finds what the values are refused for
pub plan_named : (classes : List ClassDef) (facts : Data) (names : List (List ℕ)) → count_of classes facts ≤ fact_limit → ((text : List ℕ) → number_of names text ≤ 1000000000) → HaveIds classes facts → contents_fault classes facts ≡ None →
    values_fault classes facts ≡ option_map (named_fault classes) (plan_fault classes (raw_lists names classes facts))
plan_named classes facts names many few has none =
    let lists = raw_lists names classes facts in
    let counted = count_raws classes facts names in
    let live : has_record classes facts ≡ is_live (plan_of classes lists) = λ i n id. sym (live_raws classes facts names n id) i in
    let rest = λ (test : ℕ → ℕ → Bool). first_fault (plan_class_values_fault test) [] (zip classes lists) in
    all_values_named classes facts names
    ∙ ap (λ test. option_map (named_fault classes) (rest test)) live
    ∙ sym (ap (option_map (named_fault classes)) (records_count classes lists (count_lists classes facts names) (omega arith)
    ∙ ap (λ o. option_or o (rest (is_live (plan_of classes lists)))) (records_taken classes facts names few has none)))
