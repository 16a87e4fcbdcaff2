-- Numbers that fields get are in range.
use Rattle.std.proofs.Common.{◌≡◌, ◌∙◌, ◌≤◌, ◌<◌, ◌+◌, ℕ, ℤ, suc, Bool, true, false, cond, not, nat_lt, pos, List, [], ◌∷◌, Option, Some, None, length, map, All, refl, sym, ap, arith}
use Rattle.std.specs.Str.{bytes_eq}
use Rattle.std.specs.List.{position_or_len}
use Rattle.std.proofs.lemmas.Int.{ints}
use Rattle.std.proofs.lemmas.Bool.Decides.{nat_tests}
use Rattle.plan_facts.specs.Limits.{field_limit}
use Rattle.plan_facts.specs.Names.{place_of, number_of}
use Rattle.plan_facts.specs.Plan.{IsFieldNumber}
use Rattle.plan_facts.specs.PlanFaults.{is_field_number}
use Rattle.plan_changes.specs.Performed.{is_in_range, item_number, number_given}
use Rattle.plan_changes.specs.declared.change.Item.{Item}
use Rattle.plan_changes.specs.declared.change.Item.TheVariants.{Num, Name}

-- what is found stands in the list or just past it
place_le : {A : Type 0} (p : A → Bool) (xs : List A) → position_or_len p xs ≤ length xs
place_le p [] = omega arith
place_le p (x ∷ xs) = stepped (p x) (position_or_len p xs) (length xs) (place_le p xs)
  where
    stepped : (here : Bool) (n m : ℕ) → n ≤ m → cond (not here) (1 + n) 0 ≤ suc m
    stepped true n m le = omega arith
    stepped false n m le = omega arith

not_some : {A : Type 0} (b : Bool) (x : A) → None ≡ cond b (Some x) None → b ≡ false
not_some true x h = cc
not_some false x h = refl

-- a text that has no number gets the next one
pub next_number : (names : List (List ℕ)) (text : List ℕ) → None ≡ place_of names text → length names ≡ number_of names text
next_number names text none =
    let out = not_some (nat_lt (number_of names text) (length names)) (number_of names text) none in
    let past : length names ≤ number_of names text = grind (arith, nat_tests) in
    let within = place_le (bytes_eq text) names in
    omega arith

-- the numbers of few names are small
few_numbers : (names : List (List ℕ)) → length names ≤ field_limit → (text : List ℕ) → number_of names text ≤ field_limit
few_numbers names few text = let within = place_le (bytes_eq text) names in omega arith

small_number : (n : ℕ) → n ≤ field_limit → is_field_number (pos n) ≡ true
small_number n few = grind (arith, ints, nat_tests)

pub number_fits : (number : ℤ) → is_field_number number ≡ true → IsFieldNumber number
number_fits number h = (grind (arith, ints), grind (arith, ints))

-- what an item gives a field is in range
pub item_in_range : (names : List (List ℕ)) → length names ≤ field_limit → (item : Item) → is_in_range (Some item) ≡ true → is_field_number (item_number names item) ≡ true
item_in_range names few (Num number) h = h
item_in_range names few (Name text) h = small_number (number_of names text) (few_numbers names few text)

-- what a field of a new fact holds is in range
pub given_in_range : (names : List (List ℕ)) → length names ≤ field_limit → (item : Option Item) → is_in_range item ≡ true → is_field_number (number_given names item) ≡ true
given_in_range names few None h = small_number 0 (omega arith)
given_in_range names few (Some item) h = item_in_range names few item h
