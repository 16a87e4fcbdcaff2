-- The records at some places of a list.
use Rattle.std.proofs.Common.{◌≡◌, ◌∙◌, ◌<◌, ◌≤◌, ◌+◌, ℕ, suc, Bool, true, false, cond, List, [], ◌∷◌, ◌++◌, append_assoc, length, length-append, map, filter, take, get_or, refl, sym, ap, arith, All}
use Rattle.std.specs.List.{enumerate_from}
use Rattle.std.proofs.lemmas.List.{length-map, get_or-map, map-append}
use Rattle.std.proofs.lemmas.List.FromFn.{length-enumerate_from, get_or-enumerate_from}
use Rattle.std.proofs.lemmas.List.Elements.{All-nil, All-cons, All-weaker, filter_more}
use Rattle.std.proofs.lemmas.List.Sums.{length-filter, count_by-le-length}
use Rattle.std.proofs.Math.Seq.{get_or-append_seam}
use Rattle.std.proofs.lemmas.Grind.{common_steps}
use Rattle.plan_facts.specs.declared.record.Raw.{Raw}
use Rattle.plan_moves.specs.Entities.{is_movable}
use Rattle.move_selectors.specs.Links.{no_record}
use Rattle.move_selectors.specs.Pool.{at_places, movable_places}

pub length-at_places : (facts : List Raw) (places : List ℕ) → length (at_places facts places) ≡ length places
length-at_places facts places = length-map places (λ (place : ℕ). get_or facts place no_record)

-- what a read past the end gives doesn't matter within
same_read : {A : Type 0} (xs : List A) (k : ℕ) (d e : A) → k < length xs → get_or xs k d ≡ get_or xs k e
same_read xs k d e within = grind (arith, common_steps)

-- the record at a place of the places
pub entity_at : (facts : List Raw) (places : List ℕ) (at : ℕ) (raw : Raw) → at < length places → All (λ place. place < length facts) places → raw ≡ get_or facts (get_or places at 0) raw → get_or (at_places facts places) at no_record ≡ raw
entity_at facts places at raw within inside here =
    get_or-map (λ (place : ℕ). get_or facts place no_record) places at 0 no_record within
    ∙ same_read facts (get_or places at 0) no_record raw (inside at 0 within)
    ∙ sym here

-- the records at the places of the movable ones are those that are movable
movables_from : (front facts : List Raw) → map (λ (place : ℕ). get_or (front ++ facts) place no_record) (map (λ (at : ℕ × Raw). at.0) (filter (λ (at : ℕ × Raw). is_movable at.1) (enumerate_from (length front) facts))) ≡ filter is_movable facts
movables_from front [] = refl
movables_from front (raw ∷ facts) =
    let regroup : (front ++ raw ∷ []) ++ facts ≡ front ++ raw ∷ facts = append_assoc front (raw ∷ []) facts in
    let longer : length (front ++ raw ∷ []) ≡ length front + 1 = length-append front (raw ∷ []) in
    let read : List Raw → ℕ → Raw = λ all place. get_or all place no_record in
    let numbered : ℕ → List ℕ = λ n. map (λ (at : ℕ × Raw). at.0) (filter (λ (at : ℕ × Raw). is_movable at.1) (enumerate_from n facts)) in
    let rest : map (read (front ++ raw ∷ facts)) (numbered (length front + 1)) ≡ filter is_movable facts =
    ap (λ (n : ℕ). map (read (front ++ raw ∷ facts)) (numbered n)) (sym longer)
    ∙ ap (λ (all : List Raw). map (read all) (numbered (length (front ++ raw ∷ [])))) (sym regroup)
    ∙ movables_from (front ++ raw ∷ []) facts in
    let here : read (front ++ raw ∷ facts) (length front) ≡ raw = get_or-append_seam front raw facts no_record in
    elim (is_movable raw) as (λ (b : Bool). map (read (front ++ raw ∷ facts)) (map (λ (at : ℕ × Raw). at.0) (cond b ((length front, raw) ∷ filter (λ (at : ℕ × Raw). is_movable at.1) (enumerate_from (length front + 1) facts)) (filter (λ (at : ℕ × Raw). is_movable at.1) (enumerate_from (length front + 1) facts)))) ≡ cond b (raw ∷ filter is_movable facts) (filter is_movable facts)) [
      | true ↦ λ i. here i ∷ rest i
      | false ↦ rest
    ]

pub at_movable : (facts : List Raw) → at_places facts (movable_places facts) ≡ filter is_movable facts
at_movable facts = movables_from [] facts

-- the places are below the number of facts
below_from : (n : ℕ) (facts : List Raw) → All (λ place. place < n + length facts) (map (λ (at : ℕ × Raw). at.0) (filter (λ (at : ℕ × Raw). is_movable at.1) (enumerate_from n facts)))
below_from n [] = All-nil (λ place. place < n + 0)
below_from n (raw ∷ facts) =
    let others : List ℕ = map (λ (at : ℕ × Raw). at.0) (filter (λ (at : ℕ × Raw). is_movable at.1) (enumerate_from (n + 1) facts)) in
    let P : ℕ → Type 0 = λ place. place < n + suc (length facts) in
    let rest : All P others = All-weaker (λ place. place < (n + 1) + length facts) P (λ place less. omega arith) others (below_from (n + 1) facts) in
    elim (is_movable raw) as (λ (b : Bool). All P (map (λ (at : ℕ × Raw). at.0) (cond b ((n, raw) ∷ filter (λ (at : ℕ × Raw). is_movable at.1) (enumerate_from (n + 1) facts)) (filter (λ (at : ℕ × Raw). is_movable at.1) (enumerate_from (n + 1) facts))))) [
      | true ↦ All-cons P n others (omega arith) rest
      | false ↦ rest
    ]

pub places_within : (facts : List Raw) → All (λ place. place < length facts) (movable_places facts)
places_within facts = All-weaker (λ place. place < 0 + length facts) (λ place. place < length facts) (λ place less. omega arith) (movable_places facts) (below_from 0 facts)

-- there are at most as many as facts
pub places_fit : (facts : List Raw) → length (movable_places facts) ≤ length facts
places_fit facts =
    let numbered = length-map (filter (λ (at : ℕ × Raw). is_movable at.1) (enumerate_from 0 facts)) (λ (at : ℕ × Raw). at.0) in
    let count = length-filter (λ (at : ℕ × Raw). is_movable at.1) (enumerate_from 0 facts) in
    let fits = count_by-le-length (λ (at : ℕ × Raw). is_movable at.1) (enumerate_from 0 facts) in
    let all = length-enumerate_from 0 facts in
    omega arith

-- one more fact
pub places_more : (facts : List Raw) (at : ℕ) (d : Raw) → at < length facts → map (λ (one : ℕ × Raw). one.0) (filter (λ (one : ℕ × Raw). is_movable one.1) (take (at + 1) (enumerate_from 0 facts))) ≡ map (λ (one : ℕ × Raw). one.0) (filter (λ (one : ℕ × Raw). is_movable one.1) (take at (enumerate_from 0 facts))) ++ cond (is_movable (get_or facts at d)) (at ∷ []) []
places_more facts at d within =
    let test : ℕ × Raw → Bool = λ one. is_movable one.1 in
    let place : ℕ × Raw → ℕ = λ one. one.0 in
    let before : List (ℕ × Raw) = filter test (take at (enumerate_from 0 facts)) in
    let long = length-enumerate_from 0 facts in
    let none : ℕ × Raw = (0, d) in
    let here : get_or (enumerate_from 0 facts) at none ≡ (0 + at, get_or facts at d) = get_or-enumerate_from 0 facts at none within in
    let sum : 0 + at ≡ at = omega arith in
    ap (map place) (filter_more test (enumerate_from 0 facts) at none (omega arith))
    ∙ map-append place before (cond (test (get_or (enumerate_from 0 facts) at none)) (get_or (enumerate_from 0 facts) at none ∷ []) [])
    ∙ ap (λ (one : ℕ × Raw). map place before ++ map place (cond (test one) (one ∷ []) [])) here
    ∙ ap (λ (n : ℕ). map place before ++ map place (cond (is_movable (get_or facts at d)) ((n, get_or facts at d) ∷ []) [])) sum
    ∙ ap (λ (last : List ℕ). map place before ++ last) (elim (is_movable (get_or facts at d)) as (λ (b : Bool). map place (cond b ((at, get_or facts at d) ∷ []) []) ≡ cond b (at ∷ []) []) [ true ↦ refl | false ↦ refl ])

-- the places of the movable ones of the facts up to one
abbrev pub places_upto : List Raw → ℕ → List ℕ
places_upto facts upto = map (λ (at : ℕ × Raw). at.0) (filter (λ (at : ℕ × Raw). is_movable at.1) (take upto (enumerate_from 0 facts)))
