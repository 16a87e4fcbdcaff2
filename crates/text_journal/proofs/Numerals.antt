-- Numbers that are written in decimal and read again.
use Rattle.std.proofs.Common.{◌≡◌, ◌∙◌, ℕ, ◌+◌, ◌<◌, ◌≤◌, ◌^◌, true, not, cond, ◌==◌, ◌&&◌, ◌||◌, List, [], ◌∷◌, ◌++◌, length, get_or, take, drop, Some, None, refl, sym, ap, arith, inl, inr}
use Rattle.std.specs.Prelude.{decimal, nat_le}
use Rattle.std.specs.List.{list_any, position_or_len, after_first}
use Rattle.std.specs.Option.{option_and_then}
use Rattle.std.specs.Str.{all_ascii_digits}
use Rattle.std.specs.Str.Parse.{digits_value}
use Rattle.std.proofs.lemmas.Bool.{and_from, cases_lt, cases_Bool, eqb-true, eq-eqb, le-leb, not_from_false, or_left, or_parts, or_right}
use Rattle.std.proofs.lemmas.Fmt.{decimal_digit, decimal_nonempty, digits_decimal, digits_value-decimal, first_decimal}
use Rattle.std.proofs.lemmas.List.{append_assoc, drop_at, length-append, length_push, take_at}
use Rattle.std.proofs.lemmas.Str.Parse.{IsNumeralModel, numerals_by_value, tells_all_ascii_digits}
use Rattle.feed_lines.proofs.Firsts.{some_of_place}
use Rattle.run_journal.specs.Numbers.{is_space, is_number, number_in, number_before_space}
use Rattle.run_journal.specs.Bounds.{boundary_in}
use Rattle.text_journal.proofs.Lacking.{Lacks, lacks-decimal}

own : IsNumeralModel (λ ds. all_ascii_digits ds ≡ true) (digits_value 10)
own = numerals_by_value _ tells_all_ascii_digits

-- digits of which a zero stands in front only where it stands alone are a number
number_from : (ds : List ℕ) → all_ascii_digits ds ≡ true → 0 < length ds → (get_or ds 0 0 ≡ 48 → length ds ≡ 1)
    → is_number ds ≡ true
number_from [] digits some alone = absurd (omega arith)
number_from (d ∷ ds) digits some alone =
    and_from (all_ascii_digits (d ∷ ds)) (not (d == 48) || length ds == 0) digits by_first
  where
    by_first : (not (d == 48) || length ds == 0) ≡ true
    by_first = elim (cases_Bool (d == 48)) [
      | inl none ↦ or_right (not (d == 48)) (length ds == 0)
          (eq-eqb (length ds) 0 (omega (arith, alone (eqb-true d 48 none))))
      | inr other ↦ or_left (not (d == 48)) (length ds == 0) (not_from_false (d == 48) other)
    ]

-- a zero in front stands alone
zero_alone : (n : ℕ) → n < 2 ^ 64 → get_or (decimal n) 0 0 ≡ 48 → length (decimal n) ≡ 1
zero_alone n small first = elim (cases_lt 0 n) [
  | inl some ↦ absurd (omega (arith, first_decimal n some small))
  | inr none ↦ ap length (decimal_digit n (omega arith))
]

-- what is written of a number is a number
is_number-decimal : (n : ℕ) → n < 2 ^ 64 → is_number (decimal n) ≡ true
is_number-decimal n small =
    number_from (decimal n) (digits_decimal own n small) (decimal_nonempty n small) (zero_alone n small)

-- and it is that one, where it is in the range
number_in-decimal : (low high n : ℕ) → n < 2 ^ 64 → low ≤ n → n ≤ high → number_in low high (decimal n) ≡ Some n
number_in-decimal low high n small above below =
    ap (λ value. cond (is_number (decimal n) && (nat_le low value && nat_le value high)) (Some value) None)
    (digits_value-decimal own n small)
    ∙ ap (λ b. cond b (Some n) None)
    (and_from (is_number (decimal n)) (nat_le low n && nat_le n high) (is_number-decimal n small)
    (and_from (nat_le low n) (nat_le n high) (le-leb low n above) (le-leb n high below)))

-- the first space stands behind a word that lacks it
place_behind : (word rest : List ℕ) → Lacks 32 word → position_or_len is_space (word ++ 32 ∷ rest) ≡ length word
place_behind [] rest lacks = refl
place_behind (b ∷ word) rest lacks =
    let parts = or_parts (b == 32) (list_any (λ x. x == 32) word) lacks in
    ap (λ t. cond (not t) (1 + position_or_len is_space (word ++ 32 ∷ rest)) 0) parts.0
    ∙ ap (λ k. 1 + k) (place_behind word rest parts.1) ∙ omega arith

-- behind it stands the rest
after_word : (word rest : List ℕ) → Lacks 32 word → after_first is_space (word ++ 32 ∷ rest) ≡ rest
after_word word rest lacks =
    ap (λ k. drop (k + 1) (word ++ 32 ∷ rest)) (place_behind word rest lacks)
    ∙ ap (drop (length word + 1)) (sym (append_assoc word (32 ∷ []) rest))
    ∙ drop_at (word ++ 32 ∷ []) rest (length word + 1) (length_push word 32)

-- the number before a space is read
before_space : (low high n : ℕ) (rest : List ℕ) → n < 2 ^ 64 → low ≤ n → n ≤ high
    → number_before_space low high (decimal n ++ 32 ∷ rest) ≡ Some n
before_space low high n rest small above below =
    let word = decimal n in
    let within : length word < length (word ++ 32 ∷ rest) = omega (arith, length-append word (32 ∷ rest)) in
    ap (option_and_then (λ k. number_in low high (take k (word ++ 32 ∷ rest))))
    (some_of_place is_space (word ++ 32 ∷ rest) (length word)
    (place_behind word rest (lacks-decimal 32 n (omega arith))) within)
    ∙ ap (number_in low high) (take_at word (32 ∷ rest) (length word) refl)
    ∙ number_in-decimal low high n small above below

-- the boundary behind the number of a change is read
pub boundary_in-decimal : (low high number bound : ℕ) (rest : List ℕ)
    → number < 2 ^ 64 → bound < 2 ^ 64 → low ≤ bound → bound ≤ high
    → boundary_in number low high (decimal number ++ 32 ∷ (decimal bound ++ 32 ∷ rest)) ≡ Some bound
boundary_in-decimal low high number bound rest small small_bound above below =
    let text = decimal number ++ 32 ∷ (decimal bound ++ 32 ∷ rest) in
    ap (option_and_then (λ (n : ℕ). number_before_space low high (after_first is_space text)))
    (before_space number number number (decimal bound ++ 32 ∷ rest) small (omega arith) (omega arith))
    ∙ ap (number_before_space low high)
    (after_word (decimal number) (decimal bound ++ 32 ∷ rest) (lacks-decimal 32 number (omega arith)))
    ∙ before_space low high bound rest small_bound above below
