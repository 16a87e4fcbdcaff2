use Rattle.std.proofs.Common.{◌≡◌, ◌≢◌, ℕ, ◌+◌, ◌*◌, ◌<◌, ◌≤◌, Bool, true, false, ◌||◌, List, [], ◌∷◌, ◌++◌, length, eqb, refl, sym, ◌∙◌, ap, subst, arith, rules, ⊎_elim}
use Rattle.std.proofs.lemmas.Grind.{common_steps}
use Rattle.std.proofs.lemmas.List.{length-append}
use Rattle.std.proofs.lemmas.List.Folds.{list_any-append}
use Rattle.std.proofs.lemmas.Map.Keys.{IsDistinct-push, IsDistinct-head, IsDistinct-tail, IsDistinct-cons}
use Rattle.std.proofs.lemmas.Map.Steps.{length-le_from_distinct_below}
use Rattle.std.proofs.lemmas.Bool.{false_from_ne_true, or_cases, eqb-true, eq-eqb, ne_eqb, cases_eq, or_from, or_left, or_right}
use Rattle.std.specs.List.{list_any, IsDistinct, AllByRecursion}
use Rattle.std.specs.Cmp.{nat_eq_equiv}
use Rattle.tuple_store.specs.Bits.{bit_of}
use Rattle.tuple_store.specs.Log.{is_noted, IsLog}

pub true_false : {b : Bool} → b ≡ true → b ≡ false → ⊥
true_false e f = cc

-- one number more
pub is_noted-push : (numbers : List ℕ) (n q : ℕ) → is_noted (numbers ++ n ∷ []) q ≡ (eqb q n || is_noted numbers q)
is_noted-push numbers n q = list_any-append (eqb q) numbers (n ∷ []) ∙ turned (is_noted numbers q) (eqb q n) where
  turned : (a b : Bool) → (a || (b || false)) ≡ (b || a)
  turned true true = refl
  turned true false = refl
  turned false true = refl
  turned false false = refl

all_front : (n : ℕ) (xs : List ℕ) (y : ℕ) → AllByRecursion (λ z. eqb n z ≡ false) (xs ++ y ∷ []) → AllByRecursion (λ z. eqb n z ≡ false) xs
all_front n [] y h = tt
all_front n (x ∷ xs) y h = (h.0, all_front n xs y h.1)

all_last : (n : ℕ) (xs : List ℕ) (y : ℕ) → AllByRecursion (λ z. eqb n z ≡ false) (xs ++ y ∷ []) → eqb n y ≡ false
all_last n [] y h = h.0
all_last n (x ∷ xs) y h = all_last n xs y h.1

distinct_front : (xs : List ℕ) (y : ℕ) → IsDistinct eqb (xs ++ y ∷ []) → IsDistinct eqb xs
unfolding IsDistinct
distinct_front [] y h = tt
distinct_front (x ∷ xs) y h = (all_front x xs y h.0, distinct_front xs y h.1)

distinct_last : (xs : List ℕ) (y : ℕ) → IsDistinct eqb (xs ++ y ∷ []) → is_noted xs y ≡ false
unfolding IsDistinct
distinct_last [] y h = refl
distinct_last (x ∷ xs) y h = or_from _ _ (nat_eq_equiv.symm y x ∙ all_last x xs y h.0) (distinct_last xs y h.1)

module _ (numbers : List ℕ) (count capacity : ℕ) (words : List ℕ) (room : ℕ) where
  -- as many numbers as the room at most
  pub length-log : IsLog numbers count capacity words room → length numbers ≤ room
  length-log log = length-le_from_distinct_below numbers room log.distinct log.below

  -- a number whose bit isn't set is new
  pub new_number : IsLog numbers count capacity words room → (n : ℕ) → bit_of words n ≢ 1 → is_noted numbers n ≡ false
  new_number log n h = false_from_ne_true _ (λ e. h (log.bits n e))

  push_below : IsLog numbers count capacity words room → (n : ℕ) → n < room → (q : ℕ) → is_noted (numbers ++ n ∷ []) q ≡ true → q < room
  push_below log n h q e = ⊎_elim (λ same. rw (eqb-true q n same) h) (λ old. log.below q old) (or_cases _ _ (sym (is_noted-push numbers n q) ∙ e))

  -- there is room for a new number
  pub length-log_push : IsLog numbers count capacity words room → (n : ℕ) → n < room → is_noted numbers n ≡ false → length numbers + 1 ≤ room
  length-log_push log n h fresh =
      let le = length-le_from_distinct_below (numbers ++ n ∷ []) room (IsDistinct-push nat_eq_equiv numbers n log.distinct fresh) (push_below log n h) in
      let e = length-append numbers (n ∷ []) in
      omega arith

  -- a new number
  pub log_push : IsLog numbers count capacity words room → (n : ℕ) → n < room → is_noted numbers n ≡ false → (wider : List ℕ) → bit_of wider n ≡ 1 → ((q : ℕ) → q ≢ n → bit_of wider q ≡ bit_of words q) → length wider ≡ length words → IsLog (numbers ++ n ∷ []) (count + 1) capacity wider room
  log_push log n h fresh wider here others same = record {
    counted = let c = log.counted in let e = length-append numbers (n ∷ []) in omega arith;
    below = push_below log n h;
    distinct = IsDistinct-push nat_eq_equiv numbers n log.distinct fresh;
    bits = λ q e. ⊎_elim (λ at. rw at here) (λ apart. others q apart ∙ log.bits q (sym (ap (λ (b : Bool). b || is_noted numbers q) (ne_eqb q n apart)) ∙ sym (is_noted-push numbers n q) ∙ e)) (cases_eq q n);
    noted = λ q e. is_noted-push numbers n q ∙ ⊎_elim (λ at. or_left _ _ (eq-eqb q n at)) (λ apart. or_right _ _ (log.noted q (sym (others q apart) ∙ e))) (cases_eq q n);
    fits = log.fits;
    covered = rw same log.covered;
  }

-- without the last number
pub log_pop : (all numbers : List ℕ) (count fewer capacity : ℕ) (words : List ℕ) (room n : ℕ) → IsLog all count capacity words room → all ≡ numbers ++ n ∷ [] → fewer + 1 ≡ count → (less : List ℕ) → bit_of less n ≡ 0 → ((q : ℕ) → q ≢ n → bit_of less q ≡ bit_of words q) → length less ≡ length words → IsLog numbers fewer capacity less room
log_pop all numbers count fewer capacity words room n was is less_by less here others same =
    let log : IsLog (numbers ++ n ∷ []) count capacity words room = subst (λ (ns : List ℕ). IsLog ns count capacity words room) is was in
    let more : (q : ℕ) → is_noted numbers q ≡ true → is_noted (numbers ++ n ∷ []) q ≡ true = λ q e. is_noted-push numbers n q ∙ or_right _ _ e in
    let gone : is_noted numbers n ≡ false = distinct_last numbers n log.distinct in
    record {
      counted = let c = log.counted in let e = length-append numbers (n ∷ []) in omega arith;
      below = λ q e. log.below q (more q e);
      distinct = distinct_front numbers n log.distinct;
      bits = λ q e. ⊎_elim (λ at. absurd (no_more q at e gone)) (λ apart. others q apart ∙ log.bits q (more q e)) (cases_eq q n);
      noted = λ q e. ⊎_elim (λ at. absurd (zero_one q at e)) (λ apart. sym (ap (λ (b : Bool). b || is_noted numbers q) (ne_eqb q n apart)) ∙ sym (is_noted-push numbers n q) ∙ log.noted q (sym (others q apart) ∙ e)) (cases_eq q n);
      fits = log.fits;
      covered = rw same log.covered;
    }
  where
    no_more : (q : ℕ) → q ≡ n → is_noted numbers q ≡ true → is_noted numbers n ≡ false → ⊥
    no_more q at e gone = let k : is_noted numbers n ≡ true = rw (← at) e in cc

    zero_one : (q : ℕ) → q ≡ n → bit_of less q ≡ 1 → ⊥
    zero_one q at e = let k : bit_of less n ≡ 1 = rw (← at) e in omega arith

-- the number at the end has a bit
pub log_last : (all numbers : List ℕ) (count capacity : ℕ) (words : List ℕ) (room n : ℕ) → IsLog all count capacity words room → all ≡ numbers ++ n ∷ [] → n < 64 * length words
log_last all numbers count capacity words room n was is =
    let log : IsLog (numbers ++ n ∷ []) count capacity words room = subst (λ (ns : List ℕ). IsLog ns count capacity words room) is was in
    let lt = log.below n (is_noted-push numbers n n ∙ or_left _ _ (eq-eqb n n refl)) in
    let le = log.covered in
    omega arith
