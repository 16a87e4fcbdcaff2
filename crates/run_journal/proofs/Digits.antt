-- What the reading of a number says.
use Rattle.std.proofs.Common.{◌≡◌, ℕ, suc, zero, ◌<◌, ◌≤◌, ◌^◌, ◌==◌, Bool, true, false, not, ◌||◌, List, [], ◌∷◌, length, get_or, None, Result, Ok, Err, refl, arith, ◌≢◌, inl, inr}
use Rattle.std.specs.Char.{is_ascii_digit}
use Rattle.std.specs.Option.{IfSome, IfNone}
use Rattle.std.specs.Result.{result_ok, OkIff}
use Rattle.std.specs.Str.{IsUtf8, all_ascii_digits}
use Rattle.std.specs.Str.Parse.{digits_value, ParsesUnsigned}
use Rattle.std.proofs.lemmas.Bool.{and_parts, leb-true, cases_lt}
use Rattle.std.proofs.lemmas.Str.{IsUtf8-from_ascii}
use Rattle.std.proofs.lemmas.Str.Parse.{IsNumeralModel, numerals_by_value, tells_all_ascii_digits, parse_plain}
use Rattle.run_journal.specs.Numbers.{is_number, number_in}

own : IsNumeralModel (λ ds. all_ascii_digits ds ≡ true) (digits_value 10)
own = numerals_by_value _ tells_all_ascii_digits

-- what is read of a word that begins with no plus sign
read : {E : Type 0} (word : List ℕ) (r : Result ℕ E) → get_or word 0 0 ≢ 43 → ParsesUnsigned 32 10 word r
    → OkIff r ((all_ascii_digits word ≡ true) × (0 < length word) × (digits_value 10 word < 2 ^ 32)) (digits_value 10 word)
read word r plain h = parse_plain own 32 word r h plain

-- where a word is read, it is a number
pub number-some : {E : Type 0} (first : ℕ) (rest : List ℕ) (r : Result ℕ E) → first ≢ 43 → (not (first == 48) || length rest == 0) ≡ true → ParsesUnsigned 32 10 (first ∷ rest) r
    → IfSome (result_ok r) (λ n. (is_number (first ∷ rest) ≡ true) × (n ≡ digits_value 10 (first ∷ rest)))
number-some {E} first rest (Ok n) plain alone h =
    let is = read {E = E} (first ∷ rest) (Ok n) plain h in
    (rw (is.0.0, alone) refl, is.1)
number-some first rest (Err e) plain alone h = tt

-- where it unread, it is none, or too great
pub number-none : {E : Type 0} (first : ℕ) (rest : List ℕ) (r : Result ℕ E) → first ≢ 43 → ParsesUnsigned 32 10 (first ∷ rest) r
    → IfNone (result_ok r) (is_number (first ∷ rest) ≡ true → 2 ^ 32 ≤ digits_value 10 (first ∷ rest))
number-none first rest (Ok n) plain h = tt
number-none {E} first rest (Err e) plain h = λ number.
    let unread = read {E = E} (first ∷ rest) (Err e) plain h in
    elim (cases_lt (digits_value 10 (first ∷ rest)) (2 ^ 32)) [
      | inl below ↦ absurd (unread ((and_parts _ _ number).0, omega arith, below))
      | inr above ↦ above
    ]

digit_below : (c : ℕ) → is_ascii_digit c ≡ true → c < 128
digit_below c e = omega (arith, leb-true c 57 (and_parts _ _ e).1)

digits_below : (word : List ℕ) → all_ascii_digits word ≡ true → (i : ℕ) → get_or word i 0 < 128
digits_below [] e i = omega arith
digits_below (c ∷ cs) e zero = digit_below c (and_parts _ _ e).0
digits_below (c ∷ cs) e (suc i) = digits_below cs (and_parts _ _ e).1 i

number_text : (word : List ℕ) → is_number word ≡ true → IsUtf8 word
number_text [] e = cc
number_text (c ∷ cs) e = IsUtf8-from_ascii (c ∷ cs) (digits_below (c ∷ cs) (and_parts _ _ e).0)

-- what is no text is no number
pub no_number : (low high : ℕ) (word : List ℕ) → (IsUtf8 word → ⊥) → number_in low high word ≡ None
no_number low high word bad = by_test (is_number word) refl
  where
    by_test : (b : Bool) → is_number word ≡ b → number_in low high word ≡ None
    by_test true e = absurd (bad (number_text word e))
    by_test false e = rw e refl
