-- Which facts stand in a row up to a place.
use Rattle.std.proofs.Common.{◌≡◌, ◌∙◌, ◌+◌, ◌<◌, ◌==◌, ◌&&◌, ◌||◌, not, ℕ, Bool, true, false, Option, Some, None, List, length, take, slice_get, pos, refl, sym, ap, arith}
use Rattle.std.specs.List.{list_any}
use Rattle.std.specs.Option.{option_and_then, option_map_or}
use Rattle.std.proofs.lemmas.Bool.Decides.{nat_tests}
use Rattle.std.proofs.lemmas.List.Folds.{list_any_kept, list_any_more}
use Rattle.std.proofs.lemmas.Option.{slice_get-get_or}
use Rattle.plan_rules.specs.declared.row.Part.{Part}
use Rattle.plan_rules.specs.declared.row.Part.TheVariants.{Fact, Num}
use Rattle.plan_rules.specs.declared.row.Match.{Match}
use Rattle.indictments.specs.Indicts.{fact_at, fact_in, is_fact, is_fact_at}
use Rattle.indictments.specs.Tallies.{is_above, is_first}

-- numbers that pass a test of both are the same ones
pub both_same : (a b c d : ℕ) → ((a == b) && (c == d)) ≡ true → (a ≡ b) × (c ≡ d)
both_same a b c d is = (grind (arith, nat_tests), grind (arith, nat_tests))

-- the two sides of a test of both may be exchanged
pub both_turned : (a b c d : ℕ) → ((a == b) && (c == d)) ≡ ((b == a) && (d == c))
both_turned a b c d = grind (arith, nat_tests)

-- the fact is found among the parts up to a place, that place taken in
pub found_more : (row : List Part) (k class id : ℕ) → k < length row
    → list_any (is_fact class id) (take (k + 1) row) ≡ (list_any (is_fact class id) (take k row) || is_fact_at row k class id)
found_more row k class id within =
    let p : Part → Bool = is_fact class id in
    let d : Part = Num (pos 0) in
    list_any_more p row k d within ∙ ap (λ b. list_any p (take k row) || b) (sym (ap (λ (o : Option Part). option_map_or p o false) (slice_get-get_or row k d within)))

only_new : (before here : Bool) → (not before && (before || here)) ≡ (not before && here)
only_new true here = refl
only_new false here = refl

-- a part is a fact where its class and id are that fact's
same_part : (class id : ℕ) (part : Option Part) → option_map_or (is_fact class id) part false ≡ option_map_or (λ (f : ℕ × ℕ). (class == f.0) && (id == f.1)) (option_and_then fact_in part) false
same_part class id None = refl
same_part class id (Some (Fact rec)) = refl
same_part class id (Some (Num n)) = refl

-- a fact stands at a place for the first time where it stands there and doesn't stand before
first_is : (class id : ℕ) (one : Match) (n : ℕ) → n < length one.row
    → is_first class id one n ≡ (not (is_above class id one n) && option_map_or (λ (f : ℕ × ℕ). (class == f.0) && (id == f.1)) (fact_at one.row n) false)
first_is class id one n within =
    ap (λ b. not (is_above class id one n) && b) (found_more one.row n class id within)
    ∙ only_new (is_above class id one n) (is_fact_at one.row n class id)
    ∙ ap (λ b. not (is_above class id one n) && b) (same_part class id (slice_get one.row n))

-- where this fact stands at the place
first_here : (class id : ℕ) (one : Match) (n : ℕ) (fact : ℕ × ℕ) → n < length one.row → Some fact ≡ fact_at one.row n
    → is_first class id one n ≡ (not (is_above class id one n) && ((class == fact.0) && (id == fact.1)))
first_here class id one n fact within at =
    first_is class id one n within ∙ ap (λ (o : Option (ℕ × ℕ)). not (is_above class id one n) && option_map_or (λ (f : ℕ × ℕ). (class == f.0) && (id == f.1)) o false) (sym at)

and_false : (b : Bool) → (b && false) ≡ false
and_false true = refl
and_false false = refl

-- no fact stands for the first time where none does
pub none_first : (class id : ℕ) (one : Match) (n : ℕ) → n < length one.row → None ≡ fact_at one.row n → is_first class id one n ≡ false
none_first class id one n within at =
    first_is class id one n within
    ∙ ap (λ (o : Option (ℕ × ℕ)). not (is_above class id one n) && option_map_or (λ (f : ℕ × ℕ). (class == f.0) && (id == f.1)) o false) (sym at)
    ∙ and_false (not (is_above class id one n))

-- what stands before a place stands up to it too
pub above_kept : (class id : ℕ) (one : Match) (n : ℕ) → is_above class id one n ≡ true → is_above class id one (n + 1) ≡ true
above_kept class id one n is = list_any_kept (is_fact class id) one.row n is

-- a fact that stands before a place doesn't stand there for the first time
pub again : (class id : ℕ) (one : Match) (n : ℕ) (fact : ℕ × ℕ) → n < length one.row → Some fact ≡ fact_at one.row n
    → is_above fact.0 fact.1 one n ≡ true → is_first class id one n ≡ false
again class id one n fact within at stands = first_here class id one n fact within at ∙ neither ((class == fact.0) && (id == fact.1)) refl
  where
    neither : (b : Bool) → ((class == fact.0) && (id == fact.1)) ≡ b → (not (is_above class id one n) && b) ≡ false
    neither false is = and_false (not (is_above class id one n))
    neither true is =
        let same = both_same class fact.0 id fact.1 is in
        let above : is_above class id one n ≡ true = (λ i. is_above (same.0 i) (same.1 i) one n) ∙ stands in
        ap (λ b. not b && true) above

-- a fact that doesn't stand before a place stands there for the first time
pub first_time : (class id : ℕ) (one : Match) (n : ℕ) (fact : ℕ × ℕ) → n < length one.row → Some fact ≡ fact_at one.row n
    → is_above fact.0 fact.1 one n ≡ false → ((fact.0 == class) && (fact.1 == id)) ≡ is_first class id one n
first_time class id one n fact within at new =
    both_turned fact.0 class fact.1 id ∙ alone ((class == fact.0) && (id == fact.1)) refl ∙ sym (first_here class id one n fact within at)
  where
    alone : (b : Bool) → ((class == fact.0) && (id == fact.1)) ≡ b → ((class == fact.0) && (id == fact.1)) ≡ (not (is_above class id one n) && ((class == fact.0) && (id == fact.1)))
    alone false is = is ∙ sym (ap (λ b. not (is_above class id one n) && b) is ∙ and_false (not (is_above class id one n)))
    alone true is =
        let same = both_same class fact.0 id fact.1 is in
        let above : is_above class id one n ≡ false = (λ i. is_above (same.0 i) (same.1 i) one n) ∙ new in
        sym (ap (λ b. not b && ((class == fact.0) && (id == fact.1))) above)
