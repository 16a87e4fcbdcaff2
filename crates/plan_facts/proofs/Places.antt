-- A record of a list by its place and by its id, where the ids increase.
use Rattle.std.proofs.Common.{◌≡◌, ◌≢◌, ◌==◌, ◌<◌, ◌≤◌, inl, inr, ◌∙◌, ℕ, zero, suc, Bool, true, false, cond, Option, Some, None, MatchOption, IsSomeAnd, List, [], ◌∷◌, length, set, map, get_or, eqb, refl, sym, ap, subst, arith, rules, All}
use Rattle.std.proofs.lemmas.Grind.{common_steps}
use Rattle.std.proofs.lemmas.Bool.{cases_eq}
use Rattle.std.proofs.lemmas.List.{length-map}
use Rattle.plan_facts.specs.declared.record.Raw.{Raw}
use Rattle.plan_facts.specs.Plan.{record_with_id, ids_in, AreIncreasing, IsPlaceOf}

pub eqb_same : (a b : ℕ) → a ≡ b → eqb a b ≡ true
eqb_same a b e = grind (arith, common_steps, rules)

pub eqb_other : (a b : ℕ) → (a ≡ b → ⊥) → eqb a b ≡ false
eqb_other a b n = grind (arith, common_steps, rules)

pub same_eqb : (a b : ℕ) → eqb a b ≡ true → a ≡ b
same_eqb a b e = grind (arith, common_steps, rules)

pub other_eqb : (a b : ℕ) → eqb a b ≡ false → a ≡ b → ⊥
other_eqb a b e h = grind (arith, common_steps, rules)

-- what increases goes on increasing after its first number
pub increasing_tail : (x : ℕ) (xs : List ℕ) → AreIncreasing (x ∷ xs) → AreIncreasing xs
increasing_tail x xs up = λ i j d lt within. up (suc i) (suc j) d (omega arith) (omega arith)

-- the first number is below each later one
pub increasing_head : (x : ℕ) (xs : List ℕ) → AreIncreasing (x ∷ xs) → (k d : ℕ) → k < length xs → x < get_or xs k d
increasing_head x xs up k d within = up 0 (suc k) d (omega arith) (omega arith)

-- the record at a place is the one with its id
pub record_at : (facts : List Raw) (place id : ℕ) (d : Raw) → AreIncreasing (ids_in facts) → place < length facts → get_or (ids_in facts) place 0 ≡ id → record_with_id id facts ≡ Some (get_or facts place d)
record_at [] place id d up within is = absurd (omega arith)
record_at (raw ∷ facts) zero id d up within is = ap (λ (b : Bool). cond b (Some raw) (record_with_id id facts)) (eqb_same raw.id id is)
record_at (raw ∷ facts) (suc place) id d up within is =
    let below : raw.id < get_or (ids_in facts) place 0 = increasing_head raw.id (ids_in facts) up place 0 (omega (arith, length-map facts (λ (r : Raw). r.id))) in
    ap (λ (b : Bool). cond b (Some raw) (record_with_id id facts)) (eqb_other raw.id id (omega arith)) ∙ record_at facts place id d (increasing_tail raw.id (ids_in facts) up) (omega arith) is

-- an id that no record has
pub no_record : (facts : List Raw) (id : ℕ) → All (λ other. other ≢ id) (ids_in facts) → record_with_id id facts ≡ None
no_record [] id none = refl
no_record (raw ∷ facts) id none =
    ap (λ (b : Bool). cond b (Some raw) (record_with_id id facts)) (eqb_other raw.id id (none 0 0 (omega arith))) ∙ no_record facts id (λ k d within. none (suc k) d (omega arith))

-- a change of records that are not there changes nothing
pub changed_none : (facts : List Raw) (id : ℕ) (change : Raw → Raw) → ((k d : ℕ) → k < length (ids_in facts) → id < get_or (ids_in facts) k d) → map (λ raw. cond (raw.id == id) (change raw) raw) facts ≡ facts
changed_none [] id change above = refl
changed_none (raw ∷ facts) id change above =
    λ i. ap (λ (b : Bool). cond b (change raw) raw) (eqb_other raw.id id (let h = above 0 0 (omega arith) in omega arith)) i ∷ changed_none facts id change (λ k d within. above (suc k) d (omega arith)) i

-- a change of the record with an id is a change at its place
pub changed_at : (facts : List Raw) (place id : ℕ) (change : Raw → Raw) (d : Raw) → AreIncreasing (ids_in facts) → place < length facts → get_or (ids_in facts) place 0 ≡ id → map (λ raw. cond (raw.id == id) (change raw) raw) facts ≡ set facts place (change (get_or facts place d))
changed_at [] place id change d up within is = absurd (omega arith)
changed_at (raw ∷ facts) zero id change d up within is =
    λ i. ap (λ (b : Bool). cond b (change raw) raw) (eqb_same raw.id id is) i ∷ changed_none facts id change (λ k e in'. let h = increasing_head raw.id (ids_in facts) up k e in' in omega arith) i
changed_at (raw ∷ facts) (suc place) id change d up within is =
    let below : raw.id < get_or (ids_in facts) place 0 = increasing_head raw.id (ids_in facts) up place 0 (omega (arith, length-map facts (λ (r : Raw). r.id))) in
    λ i. ap (λ (b : Bool). cond b (change raw) raw) (eqb_other raw.id id (omega arith)) i ∷ changed_at facts place id change d (increasing_tail raw.id (ids_in facts) up) (omega arith) is i

-- the record that was read at the place of an id is the one with the id
pub record_read : (facts : List Raw) (id place : ℕ) (raw : Raw) → AreIncreasing (ids_in facts) → IsPlaceOf facts id place → raw ≡ get_or facts place raw → record_with_id id facts ≡ Some raw
record_read facts id place raw up here read = record_at facts place id raw up here.0 here.1 ∙ ap (λ (r : Raw). Some r) (sym read)

-- the records after one was changed at its place
pub changed_here : (facts : List Raw) (id place : ℕ) (change : Raw → Raw) (raw new : Raw) → AreIncreasing (ids_in facts) → IsPlaceOf facts id place → raw ≡ get_or facts place raw → new ≡ change raw → set facts place new ≡ map (λ r. cond (r.id == id) (change r) r) facts
changed_here facts id place change raw new up here read is =
    ap (set facts place) (is ∙ ap change read) ∙ sym (changed_at facts place id change raw up here.0 here.1)

id_changed : (raw : Raw) (id : ℕ) (change : Raw → Raw) → ((r : Raw) → (change r).id ≡ r.id) → (cond (raw.id == id) (change raw) raw).id ≡ raw.id
id_changed raw id change same = elim (eqb raw.id id) as (λ b. (cond b (change raw) raw).id ≡ raw.id) [ true ↦ same raw | false ↦ refl ]

-- a change that keeps a record's id keeps the ids
pub ids_in-changed : (facts : List Raw) (id : ℕ) (change : Raw → Raw) → ((raw : Raw) → (change raw).id ≡ raw.id) → ids_in (map (λ r. cond (r.id == id) (change r) r) facts) ≡ ids_in facts
ids_in-changed [] id change same = refl
ids_in-changed (raw ∷ facts) id change same = λ i. id_changed raw id change same i ∷ ids_in-changed facts id change same i

-- what a search of the ids says of the records
pub found_record : (facts : List Raw) (ids : List ℕ) (id : ℕ) (found : Option ℕ) → ids ≡ ids_in facts → MatchOption found (All (λ other. other ≢ id) ids) (λ place. (place < length ids) × (get_or ids place 0 ≡ id)) → MatchOption found (record_with_id id facts ≡ None) (IsPlaceOf facts id)
found_record facts ids id None is none = no_record facts id (rw (← is) none)
found_record facts ids id (Some place) is here =
    (omega (arith, ap length is, length-map facts (λ (r : Raw). r.id), here.0), rw (← is) here.1)

-- what increases never falls
pub increasing_never_falls : (ids : List ℕ) → AreIncreasing ids → (i j : ℕ) → i ≤ j → j < length ids → get_or ids i 0 ≤ get_or ids j 0
increasing_never_falls ids up i j le within =
    elim (cases_eq i j) [ inl same ↦ omega (arith, ap (λ (k : ℕ). get_or ids k 0) same) | inr apart ↦ let h = up i j 0 (omega arith) within in omega arith ]

-- what a clause says of the record with an id
pub at_record : {found : Option Raw} {raw : Raw} (P : Raw → Type 0) → found ≡ Some raw → IsSomeAnd found P → P raw
at_record P is holds = rw is at holds

-- a clause on the record with an id, from what is so of the record
pub of_record : {found : Option Raw} {raw : Raw} (P : Raw → Type 0) → found ≡ Some raw → P raw → IsSomeAnd found P
of_record P is holds = rw is holds

-- what is so of each record is so of the one with an id
pub found_holds : (P : Raw → Type 0) (facts : List Raw) (id : ℕ) (raw : Raw) → All P facts → record_with_id id facts ≡ Some raw → P raw
found_holds P [] id raw all found = absurd (let e : None ≡ Some raw = found in cc)
found_holds P (first ∷ facts) id raw all found =
    elim (eqb first.id id) as (λ b. cond b (Some first) (record_with_id id facts) ≡ Some raw → P raw) [
      | true ↦ λ is. let same : first ≡ raw = cc in subst P same (all 0 first (omega arith))
      | false ↦ λ is. found_holds P facts id raw (λ k d within. all (suc k) d (omega arith)) is
    ] found
