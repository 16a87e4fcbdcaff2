-- The plan of lists without a fault is sound.
use Rattle.plan_facts.specs.Limits.{field_limit}
use Rattle.std.proofs.Common.{◌≡◌, ◌==◌, ◌<◌, ◌≤◌, ◌∙◌, ℕ, ℤ, zero, suc, Bool, true, false, cond, ◌||◌, nat_lt, max, fold, Option, Some, None, is_some, IsTrue, List, [], ◌∷◌, ◌++◌, length, take, zip, get_or, eqb, pos, refl, sym, ap, arith, All}
use Rattle.std.specs.List.{AllZip, IsDistinct}
use Rattle.std.proofs.lemmas.Int.{ints}
use Rattle.std.proofs.lemmas.Bool.Decides.{nat_tests}
use Rattle.std.proofs.lemmas.Bool.{false≢true}
use Rattle.std.proofs.lemmas.List.{get_or-map, get_or-take, length-map, length-take-le}
use Rattle.std.proofs.lemmas.List.Elements.{All-from_get_or, All-cons}
use Rattle.std.proofs.lemmas.Map.Keys.{IsDistinct-from_apart}
use Rattle.plan_facts.specs.First.{first_fault}
use Rattle.plan_facts.specs.declared.record.Raw.{Raw}
use Rattle.plan_facts.specs.declared.fault.PlanFault.TheVariants.{BadId, FieldCount, BadValue}
use Rattle.plan_facts.specs.Plan.{ids_in, record_with_id, is_value_among, IsFieldNumber}
use Rattle.plan_facts.specs.PlanFaults.{is_bad_id, is_field_number, number_fault, fields_fault, value_fault, values_fault, record_fault}
use Rattle.plan_facts.proofs.FirstLaws.{first_fault-none, option_or-none}
use Rattle.plan_facts.proofs.Places.{eqb_same, same_eqb}

-- what is refused and isn't there doesn't hold
pub refused_none : {F : Type 0} (b : Bool) (fault : F) → cond b (Some fault) None ≡ None → b ≡ false
refused_none true fault h = cc
refused_none false fault h = refl

-- what must hold and isn't refused does
pub held_none : {F : Type 0} (b : Bool) (fault : F) → cond b None (Some fault) ≡ None → b ≡ true
held_none true fault h = refl
held_none false fault h = cc

number_fits : (number : ℤ) → is_field_number number ≡ true → IsFieldNumber number
number_fits number h = (grind (arith, ints), grind (arith, ints))

-- fields without a fault are as many as they must be, and within the limits
pub fields_fit : (class id count : ℕ) (fields : List ℤ) → fields_fault class id count fields ≡ None → (length fields ≡ count) × All IsFieldNumber fields
fields_fit class id count fields none =
    let parts = option_or-none (cond (length fields == count) None (Some (FieldCount class id))) (first_fault (number_fault class id) [] fields) none in (
      same_eqb (length fields) count (held_none _ _ parts.0),
      All-from_get_or IsFieldNumber fields (pos 0) (λ k within. number_fits (get_or fields k (pos 0)) (held_none _ _ (first_fault-none (number_fault class id) [] fields parts.1 k (pos 0) within))),
    )

-- pairs without a fault are live values
pairs_fit : (live : ℕ → ℕ → Bool) (class id : ℕ) (earlier : List (ℕ × Option ℕ)) (ranges : List ℕ) (values : List (Option ℕ)) → length values ≡ length ranges → first_fault (value_fault live class id) earlier (zip ranges values) ≡ None → AllZip (λ range value. IsTrue (is_value_among live range value)) ranges values
pairs_fit live class id earlier [] [] same none = tt
pairs_fit live class id earlier [] (value ∷ values) same none = absurd (omega arith)
pairs_fit live class id earlier (range ∷ ranges) [] same none = absurd (omega arith)
pairs_fit live class id earlier (range ∷ ranges) (value ∷ values) same none =
    let parts = option_or-none (value_fault live class id earlier (range, value)) _ none in
    (held_none _ _ parts.0, pairs_fit live class id (earlier ++ (range, value) ∷ []) ranges values (omega arith) parts.1)

-- values without a fault are as many as the variables, and each is null or live
pub values_fit : (live : ℕ → ℕ → Bool) (class id : ℕ) (ranges : List ℕ) (values : List (Option ℕ)) → values_fault live class id ranges values ≡ None → AllZip (λ range value. IsTrue (is_value_among live range value)) ranges values
values_fit live class id ranges values none =
    let parts = option_or-none (first_fault (value_fault live class id) [] (zip ranges values)) (cond (length values == length ranges) None (Some (BadValue class id (length ranges)))) none in
    pairs_fit live class id [] ranges values (same_eqb (length values) (length ranges) (held_none _ _ parts.1)) parts.0

-- an id without a fault is in its limits, and that of no earlier record
pub record GoodId (earlier : List Raw) (id : ℕ) : Type 0 where
  pub low : 1 ≤ id
  pub high : id ≤ field_limit
  pub fresh : is_some (record_with_id id earlier) ≡ false

or_false : (a b : Bool) → (a || b) ≡ false → (a ≡ false) × (b ≡ false)
or_false true b h = cc
or_false false b h = (refl, h)

id_fits : (earlier : List Raw) (id : ℕ) → is_bad_id earlier id ≡ false → GoodId earlier id
id_fits earlier id h =
    let fresh = or_false (nat_lt id 1 || nat_lt field_limit id) (is_some (record_with_id id earlier)) h in
    let limits = or_false (nat_lt id 1) (nat_lt field_limit id) fresh.0 in
    let low = limits.0 in
    let high = limits.1 in
    record { low = grind (arith, nat_tests); high = grind (arith, nat_tests); fresh = fresh.1 }

abbrev no_record : Raw
no_record = record { id = 0; fields = []; values = []; pinned = false }

-- a record is live among those that it stands with
live_there : (facts : List Raw) (k : ℕ) → k < length facts → is_some (record_with_id (get_or facts k no_record).id facts) ≡ true
live_there [] k within = absurd (omega arith)
live_there (first ∷ rest) zero within = ap (λ (b : Bool). is_some (cond b (Some first) (record_with_id first.id rest))) (eqb_same first.id first.id refl)
live_there (first ∷ rest) (suc k) within =
    let id = (get_or rest k no_record).id in
    elim (eqb first.id id) as (λ b. is_some (cond b (Some first) (record_with_id id rest)) ≡ true) [ true ↦ refl | false ↦ live_there rest k (omega arith) ]

-- what records without a fault are like
pub record GoodRecord (class count : ℕ) (earlier : List Raw) (raw : Raw) : Type 0 where
  pub id : GoodId earlier raw.id
  pub counted : length raw.fields ≡ count
  pub numbers : All IsFieldNumber raw.fields

record_good : (class count : ℕ) (earlier : List Raw) (raw : Raw) → record_fault class count earlier raw ≡ None → GoodRecord class count earlier raw
record_good class count earlier raw none =
    let parts = option_or-none (cond (is_bad_id earlier raw.id) (Some (BadId class raw.id)) None) (fields_fault class raw.id count raw.fields) none in
    let fields = fields_fit class raw.id count raw.fields parts.1 in
    record { id = id_fits earlier raw.id (refused_none _ _ parts.0); counted = fields.0; numbers = fields.1 }

pub good_at : (class count : ℕ) (raws : List Raw) → first_fault (record_fault class count) [] raws ≡ None → (k : ℕ) (d : Raw) → k < length raws → GoodRecord class count (take k raws) (get_or raws k d)
good_at class count raws none k d within = record_good class count (take k raws) (get_or raws k d) (first_fault-none (record_fault class count) [] raws none k d within)

-- the ids of records without a fault differ
pub distinct_ids : (class count : ℕ) (raws : List Raw) → first_fault (record_fault class count) [] raws ≡ None → IsDistinct eqb (ids_in raws)
distinct_ids class count raws none = IsDistinct-from_apart eqb (ids_in raws) (λ i j d lt within.
    let long = length-map raws (λ (r : Raw). r.id) in
    let in_raws : j < length raws = omega arith in
    let one : get_or (ids_in raws) i d ≡ (get_or raws i no_record).id = get_or-map (λ (r : Raw). r.id) raws i no_record d (omega arith) in
    let other : get_or (ids_in raws) j d ≡ (get_or raws j no_record).id = get_or-map (λ (r : Raw). r.id) raws j no_record d in_raws in
    let fresh = (good_at class count raws none j no_record in_raws).id.fresh in
    let before : length (take j raws) ≡ j = length-take-le j raws (omega arith) in
    let there = live_there (take j raws) i (omega arith) in
    let same : get_or (take j raws) i no_record ≡ get_or raws i no_record = get_or-take j raws i no_record lt in
    elim (eqb (get_or (ids_in raws) i d) (get_or (ids_in raws) j d)) as (λ b. eqb (get_or (ids_in raws) i d) (get_or (ids_in raws) j d) ≡ b → b ≡ false) [
      | true ↦ λ e.
          let id : (get_or (take j raws) i no_record).id ≡ (get_or raws j no_record).id = ap (λ (r : Raw). r.id) same ∙ sym one ∙ same_eqb _ _ e ∙ other in
          absurd (false≢true (sym fresh ∙ ap (λ (n : ℕ). is_some (record_with_id n (take j raws))) (sym id) ∙ there))
      | false ↦ λ e. refl
    ] refl)

-- no number is above the greatest
fold_max-above : (a : ℕ) (ids : List ℕ) → a ≤ fold max a ids
fold_max-above a [] = omega arith
fold_max-above a (id ∷ ids) = let h = fold_max-above (max a id) ids in omega arith

pub fold_max-bounds : (a : ℕ) (ids : List ℕ) → All (λ id. id ≤ fold max a ids) ids
fold_max-bounds a [] = λ k d within. absurd (omega arith)
fold_max-bounds a (id ∷ ids) = All-cons (λ n. n ≤ fold max (max a id) ids) id ids (let h = fold_max-above (max a id) ids in omega arith) (fold_max-bounds (max a id) ids)

pub fold_max-le : (a most : ℕ) (ids : List ℕ) → a ≤ most → All (λ id. id ≤ most) ids → fold max a ids ≤ most
fold_max-le a most [] le all = le
fold_max-le a most (id ∷ ids) le all = fold_max-le (max a id) most ids (let h = all 0 0 (omega arith) in omega arith) (λ k d within. all (suc k) d (omega arith))
