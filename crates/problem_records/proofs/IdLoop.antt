-- One record more of a loop that gathers ids and looks for one that stands twice.
use Rattle.std.proofs.Common.{◌≡◌, ◌∙◌, ℕ, ◌+◌, ◌<◌, ◌==◌, ◌||◌, Bool, true, false, cond, nat_eq, List, [], ◌∷◌, ◌++◌, Option, Some, None, length, take, get_or, refl, sym, ap}
use Rattle.std.specs.Option.{option_or}
use Rattle.std.proofs.lemmas.List.{take_more}
use Rattle.std.proofs.lemmas.List.Folds.{list_any-append}
use Rattle.serde_json.specs.Data.{Data}
use Rattle.plan_facts.specs.Listed.{Ids}
use Rattle.plan_facts.specs.Listed.{has_id as has_listed}
use Rattle.plan_facts.specs.declared.record.ClassDef.{ClassDef}
use Rattle.problem_faults.specs.declared.fault.ProblemFault.{ProblemFault}
use Rattle.problem_faults.specs.declared.fault.ProblemFault.TheVariants.{DoubleId}
use Rattle.problem_records.specs.Records.{id_of}
use Rattle.problem_records.specs.Listed.{HasIdsOf}
use Rattle.problem_records.specs.RecordFaults.{has_id, fields_fault, record_fault}

-- an id that stands among the earlier ones is the fault
pub id_double : (class : ClassDef) (earlier : List Data) (entry : Data) (id : ℕ) (whole rest : Option ProblemFault) → id ≡ id_of entry → has_id earlier id ≡ true
    → whole ≡ option_or (record_fault class earlier entry) rest → whole ≡ Some (DoubleId class.name id)
id_double class earlier entry id whole rest id_is has is =
    is ∙ ap (λ b. option_or (option_or (cond b (Some (DoubleId class.name (id_of entry))) None) (fields_fault class entry)) rest) (ap (has_id earlier) (sym id_is) ∙ has)
    ∙ ap (λ n. Some (DoubleId class.name n)) (sym id_is)

-- where it doesn't, the fields count
pub id_new : (class : ClassDef) (earlier : List Data) (entry : Data) (id : ℕ) (whole rest : Option ProblemFault) → id ≡ id_of entry → has_id earlier id ≡ false
    → whole ≡ option_or (record_fault class earlier entry) rest → whole ≡ option_or (fields_fault class entry) rest
id_new class earlier entry id whole rest id_is has is =
    is ∙ ap (λ b. option_or (option_or (cond b (Some (DoubleId class.name (id_of entry))) None) (fields_fault class entry)) rest) (ap (has_id earlier) (sym id_is) ∙ has)

either : (here there : Bool) → cond here true there ≡ (there || (here || false))
either true true = refl
either true false = refl
either false true = refl
either false false = refl

-- the set of ids grows with the records
pub ids_more : (entries : List Data) (k : ℕ) (entry : Data) (id : ℕ) (old new : Ids) → k < length entries → entry ≡ get_or entries k entry → id ≡ id_of entry
    → HasIdsOf (take k entries) old → ((other : ℕ) → has_listed new other ≡ cond (nat_eq id other) true (has_listed old other)) → HasIdsOf (take (k + 1) entries) new
ids_more entries k entry id old new within at id_is so_far grown = λ other.
    grown other ∙ ap (λ b. cond (nat_eq id other) true b) (so_far other)
    ∙ either (nat_eq id other) (has_id (take k entries) other)
    ∙ ap (λ n. has_id (take k entries) other || (nat_eq n other || false)) id_is
    ∙ sym (ap (λ xs. has_id xs other) (take_more entries k entry within ∙ ap (λ e. take k entries ++ e ∷ []) (sym at)) ∙ list_any-append (λ e. id_of e == other) (take k entries) (entry ∷ []))
