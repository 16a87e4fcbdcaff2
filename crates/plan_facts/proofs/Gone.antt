-- A class without one of its records, and records that let a fact go.
use Rattle.std.proofs.Common.{◌≡◌, ◌==◌, ◌<◌, ◌≤◌, ◌+◌, ◌∙◌, ℕ, zero, suc, Bool, cond, not, List, [], ◌∷◌, ◌++◌, length, take, drop, zip, map, filter, set, get_or, refl, sym, ap, arith}
use Rattle.std.specs.List.{remove}
use Rattle.std.proofs.lemmas.List.{append_assoc, append-nil, length-map, length-take-le, take_all, take_at, drop_all, get_or_at, set_at, drop_more, map_more}
use Rattle.std.proofs.lemmas.Slice.Zip.{length-zip, get_or-zip}
use Rattle.plan_facts.specs.declared.record.Raw.{Raw}
use Rattle.plan_facts.specs.Plan.{ids_in, AreIncreasing}
use Rattle.plan_facts.specs.PlanChanges.{record_let_go}
use Rattle.plan_facts.proofs.Places.{eqb_same, eqb_other, increasing_head, increasing_tail}

-- records that all have higher ids stay
kept_above : (facts : List Raw) (id : ℕ) → ((k d : ℕ) → k < length (ids_in facts) → id < get_or (ids_in facts) k d) → filter (λ raw. not (raw.id == id)) facts ≡ facts
kept_above [] id above = refl
kept_above (raw ∷ facts) id above =
    ap (λ (b : Bool). cond (not b) (raw ∷ filter (λ r. not (r.id == id)) facts) (filter (λ r. not (r.id == id)) facts)) (eqb_other raw.id id (let h = above 0 0 (omega arith) in omega arith))
    ∙ ap (λ (rest : List Raw). raw ∷ rest) (kept_above facts id (λ k d within. above (suc k) d (omega arith)))

-- the records without the one at the place of an id
pub removed_at : (facts : List Raw) (place id : ℕ) → AreIncreasing (ids_in facts) → place < length facts → get_or (ids_in facts) place 0 ≡ id → remove facts place ≡ filter (λ raw. not (raw.id == id)) facts
removed_at [] place id up within is = absurd (omega arith)
removed_at (raw ∷ facts) zero id up within is =
    sym (ap (λ (b : Bool). cond (not b) (raw ∷ filter (λ r. not (r.id == id)) facts) (filter (λ r. not (r.id == id)) facts)) (eqb_same raw.id id is) ∙ kept_above facts id (λ k d there. let h = increasing_head raw.id (ids_in facts) up k d there in omega arith))
removed_at (raw ∷ facts) (suc place) id up within is =
    let below : raw.id < get_or (ids_in facts) place 0 = increasing_head raw.id (ids_in facts) up place 0 (omega (arith, length-map facts (λ (r : Raw). r.id))) in
    ap (λ (rest : List Raw). raw ∷ rest) (removed_at facts place id (increasing_tail raw.id (ids_in facts) up) (omega arith) is)
    ∙ sym (ap (λ (b : Bool). cond (not b) (raw ∷ filter (λ r. not (r.id == id)) facts) (filter (λ r. not (r.id == id)) facts)) (eqb_other raw.id id (omega arith)))

pub ids_in-remove : (facts : List Raw) (place : ℕ) → ids_in (remove facts place) ≡ remove (ids_in facts) place
ids_in-remove [] zero = refl
ids_in-remove [] (suc place) = refl
ids_in-remove (raw ∷ facts) zero = refl
ids_in-remove (raw ∷ facts) (suc place) = ap (λ (ids : List ℕ). raw.id ∷ ids) (ids_in-remove facts place)

-- records that let a fact go keep their ids
pub ids_in-let_go : (class id : ℕ) (ranges : List ℕ) (facts : List Raw) → ids_in (map (record_let_go class id ranges) facts) ≡ ids_in facts
ids_in-let_go class id ranges [] = refl
ids_in-let_go class id ranges (raw ∷ facts) = ap (λ (ids : List ℕ). raw.id ∷ ids) (ids_in-let_go class id ranges facts)

-- a loop over two lists that writes a value over each member of the second
pub zip_over : {A B : Type 0} (f : A × B → B) (xs : List A) (ys now : List B) (k : ℕ) (c : A) (d : B) → k < length xs → length ys ≡ length xs → now ≡ map f (take k (zip xs ys)) ++ drop k ys →
    (get_or now k d ≡ get_or ys k d) × (set now k (f (get_or xs k c, get_or ys k d)) ≡ map f (take (k + 1) (zip xs ys)) ++ drop (k + 1) ys)
zip_over {A} {B} f xs ys now k c d within same is =
    let pairs = zip xs ys in
    let long = length-zip xs ys in
    let there : k < length ys = omega arith in
    let in_pairs : k < length pairs = omega arith in
    let front = map f (take k pairs) in
    let rest = drop (k + 1) ys in
    let value = f (get_or xs k c, get_or ys k d) in
    let count : length front ≡ k = length-map (take k pairs) f ∙ length-take-le k pairs (let h : k ≤ length pairs = omega arith in h) in
    let split : now ≡ front ++ get_or ys k d ∷ rest = is ∙ ap (λ (zs : List B). front ++ zs) (drop_more ys k d there) in
    let more : map f (take (k + 1) pairs) ≡ front ++ value ∷ [] = map_more f pairs k (c, d) in_pairs ∙ ap (λ (pair : A × B). front ++ f pair ∷ []) (get_or-zip xs ys k (c, d) within there) in (
      ap (λ (zs : List B). get_or zs k d) split ∙ get_or_at front (get_or ys k d) rest d k count,
      ap (λ (zs : List B). set zs k value) split ∙ set_at front (get_or ys k d) rest value k count ∙ sym (ap (λ (zs : List B). zs ++ rest) more ∙ append_assoc front (value ∷ []) rest),
    )

-- once each member was written over
pub zip_over_all : {A B : Type 0} (f : A × B → B) (xs : List A) (ys now : List B) (k : ℕ) → length xs ≤ k → length ys ≡ length xs → now ≡ map f (take k (zip xs ys)) ++ drop k ys → take (length ys) (now ++ drop (length now) ys) ≡ map f (zip xs ys)
zip_over_all {A} {B} f xs ys now k past same is =
    let pairs = zip xs ys in
    let long = length-zip xs ys in
    let all : now ≡ map f pairs =
    is ∙ ap (λ (zs : List (A × B)). map f zs ++ drop k ys) (take_all k pairs (omega arith)) ∙ ap (λ (zs : List B). map f pairs ++ zs) (drop_all k ys (omega arith)) ∙ append-nil (map f pairs) in
    let count : length now ≡ length ys = ap (λ (zs : List B). length zs) all ∙ length-map pairs f ∙ omega arith in
    take_at now (drop (length now) ys) (length ys) count ∙ all
