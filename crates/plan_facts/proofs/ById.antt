-- Records in the order of their ids.
use Rattle.std.proofs.Common.{◌≡◌, ◌<◌, ◌≤◌, ◌∙◌, ℕ, zero, suc, true, false, cond, nat_le, ◌⊎◌, inl, inr, List, [], ◌∷◌, length, get_or, eqb, refl, sym, ap, subst, arith, All, Contains, IsPermutation}
use Rattle.std.specs.List.{IsDistinct}
use Rattle.std.specs.List.Sorted.{IsNonDecreasingBy, IsNonDecreasing}
use Rattle.std.proofs.lemmas.Bool.Decides.{nat_tests}
use Rattle.std.proofs.lemmas.List.{get_or-map, length-map}
use Rattle.std.proofs.lemmas.List.Elements.{All-cons, All-map, All-from_get_or}
use Rattle.std.proofs.lemmas.List.Kept.{AllPairs-cons, AllPairs-from_increasing}
use Rattle.std.proofs.lemmas.List.Sorted.{IsPermutation-refl, IsPermutation-sym, IsPermutation-cons, IsPermutation-swap, IsPermutation-trans, IsPermutation-map, All-permutation, Contains-permutation}
use Rattle.std.proofs.lemmas.Map.Keys.{IsDistinct-IsPermutation, IsDistinct-tail, IsStrictlyIncreasing-from_distinct, apart_from_distinct}
use Rattle.plan_facts.specs.declared.record.Raw.{Raw}
use Rattle.plan_facts.specs.Plan.{ids_in, AreIncreasing}
use Rattle.plan_facts.specs.PlanFaults.{put_by_id, by_id}
use Rattle.plan_facts.proofs.Places.{increasing_head, increasing_tail, other_eqb}

abbrev no_record : Raw
no_record = record { id = 0; fields = []; values = []; pinned = false }

-- the first two of a list in each other's place
swapped_front : (one other : Raw) (rest : List Raw) → IsPermutation (one ∷ other ∷ rest) (other ∷ one ∷ rest)
swapped_front one other rest = IsPermutation-swap (one ∷ other ∷ rest) (other ∷ one ∷ rest) 0 1 (omega arith) (omega arith) refl

put_permutation : (raw : Raw) (facts : List Raw) → IsPermutation (raw ∷ facts) (put_by_id raw facts)
put_permutation raw [] = IsPermutation-refl (raw ∷ [])
put_permutation raw (first ∷ rest) =
    elim (nat_le raw.id first.id) as (λ b. IsPermutation (raw ∷ first ∷ rest) (cond b (raw ∷ first ∷ rest) (first ∷ put_by_id raw rest))) [
      | true ↦ IsPermutation-refl (raw ∷ first ∷ rest)
      | false ↦ IsPermutation-trans (raw ∷ first ∷ rest) (first ∷ raw ∷ rest) (first ∷ put_by_id raw rest) (swapped_front raw first rest) (IsPermutation-cons first (raw ∷ rest) (put_by_id raw rest) (put_permutation raw rest))
    ]

-- records in the order of their ids are the same records
pub by_id_permutation : (raws : List Raw) → IsPermutation raws (by_id raws)
by_id_permutation [] = IsPermutation-refl []
by_id_permutation (raw ∷ rest) =
    IsPermutation-trans (raw ∷ rest) (raw ∷ by_id rest) (put_by_id raw (by_id rest)) (IsPermutation-cons raw rest (by_id rest) (by_id_permutation rest)) (put_permutation raw (by_id rest))

increasing_cons : (first : Raw) (rest : List Raw) → All (λ raw. first.id < raw.id) rest → AreIncreasing (ids_in rest) → AreIncreasing (ids_in (first ∷ rest))
increasing_cons first rest below up = AllPairs-cons (λ (x y : ℕ). x < y) first.id (ids_in rest) (All-map (λ (id : ℕ). first.id < id) (λ (raw : Raw). raw.id) rest below) up

-- the first record is below each later one
head_below : (first : Raw) (rest : List Raw) → AreIncreasing (ids_in (first ∷ rest)) → All (λ raw. first.id < raw.id) rest
head_below first rest up = All-from_get_or (λ (raw : Raw). first.id < raw.id) rest no_record (λ k within.
    let e = get_or-map (λ (raw : Raw). raw.id) rest k no_record 0 within in
    let h = increasing_head first.id (ids_in rest) up k 0 (omega (arith, length-map rest (λ (raw : Raw). raw.id))) in
    omega arith)

put_increasing : (raw : Raw) (facts : List Raw) → AreIncreasing (ids_in facts) → All (λ other. raw.id ≡ other.id → ⊥) facts → AreIncreasing (ids_in (put_by_id raw facts))
put_increasing raw [] up fresh = increasing_cons raw [] (λ k d within. absurd (omega arith)) up
put_increasing raw (first ∷ rest) up fresh =
    let apart : raw.id ≡ first.id → ⊥ = fresh 0 first (omega arith) in
    let later = head_below first rest up in
    elim (nat_le raw.id first.id) as (λ b. nat_le raw.id first.id ≡ b → AreIncreasing (ids_in (cond b (raw ∷ first ∷ rest) (first ∷ put_by_id raw rest)))) [
      | true ↦ λ is.
          let le : raw.id ≤ first.id = grind (arith, nat_tests) in
          let below : raw.id < first.id = omega arith in
          increasing_cons raw (first ∷ rest) (All-cons (λ other. raw.id < other.id) first rest below (λ k d within. let h = later k d within in omega arith)) up
      | false ↦ λ is.
          let above : first.id < raw.id = grind (arith, nat_tests) in
          let all = All-permutation (λ other. first.id < other.id) (raw ∷ rest) (put_by_id raw rest) (put_permutation raw rest) (All-cons (λ other. first.id < other.id) raw rest above later) in
          increasing_cons first (put_by_id raw rest) all (put_increasing raw rest (increasing_tail first.id (ids_in rest) up) (λ k d within. fresh (suc k) d (omega arith)))
    ] refl

-- where the ids differ, they increase once the records are in order
pub by_id_increasing : (raws : List Raw) → IsDistinct eqb (ids_in raws) → AreIncreasing (ids_in (by_id raws))
by_id_increasing [] distinct = λ i j d lt within. absurd (omega arith)
by_id_increasing (raw ∷ rest) distinct =
    let fresh : All (λ other. raw.id ≡ other.id → ⊥) rest = All-from_get_or (λ (other : Raw). raw.id ≡ other.id → ⊥) rest no_record (λ k within here.
    let apart = apart_from_distinct eqb (ids_in (raw ∷ rest)) 0 (suc k) 0 distinct (omega arith) (omega (arith, length-map rest (λ (r : Raw). r.id))) in
    let e = get_or-map (λ (r : Raw). r.id) rest k no_record 0 within in
    other_eqb _ _ apart (here ∙ sym e)) in
    put_increasing raw (by_id rest) (by_id_increasing rest (IsDistinct-tail eqb raw.id (ids_in rest) distinct)) (All-permutation (λ other. raw.id ≡ other.id → ⊥) rest (by_id rest) (by_id_permutation rest) fresh)

-- what stands in a list stands first or later
contains_at : (first raw : Raw) (rest : List Raw) (k : ℕ) → k < length (first ∷ rest) → get_or (first ∷ rest) k raw ≡ raw → (first ≡ raw) ⊎ Contains rest raw
contains_at first raw rest zero within is = inl is
contains_at first raw rest (suc k) within is = inr (k, omega arith, is)

contains_cases : (first raw : Raw) (rest : List Raw) → Contains (first ∷ rest) raw → (first ≡ raw) ⊎ Contains rest raw
contains_cases first raw rest there = contains_at first raw rest there.0 there.1 there.2

contains_front : (first : Raw) (rest : List Raw) → Contains (first ∷ rest) first
contains_front first rest = (0, omega arith, refl)

contains_later : (first raw : Raw) (rest : List Raw) → Contains rest raw → Contains (first ∷ rest) raw
contains_later first raw rest there = (suc there.0, (let h = there.1 in omega arith), there.2)

-- a record that stands after the first has a higher id
later_above : (first raw : Raw) (rest : List Raw) → AreIncreasing (ids_in (first ∷ rest)) → Contains rest raw → first.id < raw.id
later_above first raw rest up there = subst (λ (r : Raw). first.id < r.id) there.2 (head_below first rest up there.0 raw there.1)

same_heads : (x y : Raw) (xs ys : List Raw) → AreIncreasing (ids_in (x ∷ xs)) → AreIncreasing (ids_in (y ∷ ys)) → Contains (y ∷ ys) x → Contains (x ∷ xs) y → x ≡ y
same_heads x y xs ys upx upy inx iny =
    elim (contains_cases y x ys inx) [
      | inl same ↦ sym same
      | inr later ↦ elim (contains_cases x y xs iny) [
        | inl same ↦ same
        | inr above ↦ absurd (let a = later_above y x ys upy later in let b = later_above x y xs upx above in omega arith)
      ]
    ]

-- what stands in the one list after its first record stands in the other after the same
later_kept : (x raw : Raw) (xs ys : List Raw) → AreIncreasing (ids_in (x ∷ xs)) → ((r : Raw) → Contains (x ∷ xs) r → Contains (x ∷ ys) r) → Contains xs raw → Contains ys raw
later_kept x raw xs ys up step there =
    elim (contains_cases x raw ys (step raw (contains_later x raw xs there))) [
      | inl same ↦ absurd (let a = later_above x raw xs up there in let e = ap (λ (r : Raw). r.id) same in omega arith)
      | inr later ↦ later
    ]

-- two lists of the same records, whose ids increase, are one
pub same_members : (xs ys : List Raw) → AreIncreasing (ids_in xs) → AreIncreasing (ids_in ys) → ((r : Raw) → Contains xs r → Contains ys r) → ((r : Raw) → Contains ys r → Contains xs r) → xs ≡ ys
same_members [] [] upx upy there back = refl
same_members [] (y ∷ ys) upx upy there back = absurd (let h = (back y (contains_front y ys)).1 in omega arith)
same_members (x ∷ xs) [] upx upy there back = absurd (let h = (there x (contains_front x xs)).1 in omega arith)
same_members (x ∷ xs) (y ∷ ys) upx upy there back =
    let same : x ≡ y = same_heads x y xs ys upx upy (there x (contains_front x xs)) (back y (contains_front y ys)) in
    let upy' = subst (λ (r : Raw). AreIncreasing (ids_in (r ∷ ys))) (sym same) upy in
    let there' = subst (λ (q : Raw). (r : Raw) → Contains (x ∷ xs) r → Contains (q ∷ ys) r) (sym same) there in
    let back' = subst (λ (q : Raw). (r : Raw) → Contains (q ∷ ys) r → Contains (x ∷ xs) r) (sym same) back in
    let rest = same_members xs ys (increasing_tail x.id (ids_in xs) upx) (increasing_tail y.id (ids_in ys) upy) (λ r. later_kept x r xs ys upx there') (λ r. later_kept x r ys xs upy' back') in
    λ i. same i ∷ rest i

eqb_flips : (x y : ℕ) → eqb x y ≡ eqb y x
eqb_flips x y = grind (arith, nat_tests)

-- sorted ids that differ increase
sorted_increasing : (raws facts : List Raw) → IsDistinct eqb (ids_in raws) → IsPermutation raws facts → IsNonDecreasingBy (λ (raw : Raw). raw.id) facts → AreIncreasing (ids_in facts)
sorted_increasing raws facts distinct moved sorted =
    let ids : IsNonDecreasing (ids_in facts) = λ i j d le within.
    let in_facts : j < length facts = omega (arith, length-map facts (λ (raw : Raw). raw.id)) in
    let one = get_or-map (λ (raw : Raw). raw.id) facts i no_record d (omega arith) in
    let other = get_or-map (λ (raw : Raw). raw.id) facts j no_record d in_facts in
    let h = sorted i j no_record le in_facts in
    omega arith in
    AllPairs-from_increasing (ids_in facts) (IsStrictlyIncreasing-from_distinct (ids_in facts) ids (IsDistinct-IsPermutation eqb eqb_flips (ids_in raws) (ids_in facts) (IsPermutation-map (λ (raw : Raw). raw.id) raws facts moved) distinct))

-- records that were sorted by their ids, which differ, are in the order of their ids
pub sorted_by_id : (raws facts : List Raw) → IsDistinct eqb (ids_in raws) → IsPermutation raws facts → IsNonDecreasingBy (λ (raw : Raw). raw.id) facts → facts ≡ by_id raws
sorted_by_id raws facts distinct moved sorted =
    same_members facts (by_id raws) (sorted_increasing raws facts distinct moved sorted) (by_id_increasing raws distinct)
    (λ r there. Contains-permutation raws (by_id raws) r (by_id_permutation raws) (Contains-permutation facts raws r (IsPermutation-sym raws facts moved) there))
    (λ r there. Contains-permutation raws facts r moved (Contains-permutation (by_id raws) raws r (IsPermutation-sym raws (by_id raws) (by_id_permutation raws)) there))
