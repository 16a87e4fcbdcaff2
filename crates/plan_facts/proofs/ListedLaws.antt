-- The ids of a list's records, one record at a time.
use Rattle.plan_facts.specs.Limits.{field_limit}
use Rattle.std.proofs.Common.{◌≡◌, ◌<◌, ◌≤◌, ◌+◌, ◌∙◌, ℕ, Bool, true, false, cond, ◌||◌, nat_lt, Option, Some, None, is_some, List, [], ◌∷◌, ◌++◌, length, take, drop, get_or, eqb, refl, sym, ap, arith}
use Rattle.std.proofs.lemmas.Bool.Decides.{nat_tests}
use Rattle.std.proofs.lemmas.List.{take_more}
use Rattle.std.specs.Option.{option_or}
use Rattle.plan_facts.specs.First.{first_fault}
use Rattle.plan_facts.specs.declared.record.Raw.{Raw}
use Rattle.plan_facts.specs.declared.fault.PlanFault.{PlanFault}
use Rattle.plan_facts.specs.declared.fault.PlanFault.TheVariants.{BadId}
use Rattle.plan_facts.specs.Plan.{record_with_id}
use Rattle.plan_facts.specs.PlanFaults.{record_fault, fields_fault, is_bad_id}
use Rattle.plan_facts.specs.Listed.{Ids, has_id, HasIds}
use Rattle.plan_facts.proofs.FirstLaws.{first_fault-from}

-- one more record has its id
pub live_push : (raws : List Raw) (raw : Raw) (id : ℕ) → is_some (record_with_id id (raws ++ raw ∷ [])) ≡ cond (eqb raw.id id) true (is_some (record_with_id id raws))
live_push [] raw id = elim (eqb raw.id id) as (λ b. is_some (cond b (Some raw) None) ≡ cond b true false) [ true ↦ refl | false ↦ refl ]
live_push (first ∷ raws) raw id =
    elim (eqb first.id id) as (λ b. is_some (cond b (Some first) (record_with_id id (raws ++ raw ∷ []))) ≡ cond (eqb raw.id id) true (is_some (cond b (Some first) (record_with_id id raws)))) [
      | true ↦ elim (eqb raw.id id) as (λ b. true ≡ cond b true true) [ true ↦ refl | false ↦ refl ]
      | false ↦ live_push raws raw id
    ]

-- the set of ids grows with the records
pub listed_more : (raws : List Raw) (place : ℕ) (raw : Raw) (old new : Ids) → place < length raws → raw ≡ get_or raws place raw → HasIds (take place raws) old → ((id : ℕ) → has_id new id ≡ cond (eqb raw.id id) true (has_id old id)) → HasIds (take (place + 1) raws) new
listed_more raws place raw old new within read so_far grown = λ id.
    grown id ∙ ap (λ (b : Bool). cond (eqb raw.id id) true b) (so_far id) ∙ sym (live_push (take place raws) raw id)
    ∙ ap (λ (xs : List Raw). is_some (record_with_id id xs)) (sym (take_more raws place raw within ∙ ap (λ (r : Raw). take place raws ++ r ∷ []) (sym read)))

not_below : (a b : ℕ) → b ≤ a → nat_lt a b ≡ false
not_below a b le = grind (arith, nat_tests)

good_id : (earlier : List Raw) (id : ℕ) → 1 ≤ id → id ≤ field_limit → is_some (record_with_id id earlier) ≡ false → is_bad_id earlier id ≡ false
good_id earlier id low high fresh =
    ap (λ (b : Bool). b || nat_lt field_limit id || is_some (record_with_id id earlier)) (not_below id 1 low) ∙ ap (λ (b : Bool). b || is_some (record_with_id id earlier)) (not_below field_limit id high) ∙ fresh

-- a record with a good id and good fields has no fault
pub good_record : (class count : ℕ) (earlier : List Raw) (raw : Raw) → 1 ≤ raw.id → raw.id ≤ field_limit → is_some (record_with_id raw.id earlier) ≡ false → None ≡ fields_fault class raw.id count raw.fields → record_fault class count earlier raw ≡ None
good_record class count earlier raw low high fresh fields =
    ap (λ (b : Bool). option_or (cond b (Some (BadId class raw.id)) None) (fields_fault class raw.id count raw.fields)) (good_id earlier raw.id low high fresh) ∙ sym fields

-- past a record with no fault
pub good_record_at : (class count : ℕ) (raws : List Raw) (place : ℕ) (raw : Raw) → place < length raws → raw ≡ get_or raws place raw → record_fault class count (take place raws) raw ≡ None →
    first_fault (record_fault class count) (take place raws) (drop place raws) ≡ first_fault (record_fault class count) (take (place + 1) raws) (drop (place + 1) raws)
good_record_at class count raws place raw within read good =
    first_fault-from (record_fault class count) raws place raw within read ∙ ap (λ (o : Option PlanFault). option_or o (first_fault (record_fault class count) (take (place + 1) raws) (drop (place + 1) raws))) good
