-- Names behind references, and what the reading of a number says.
use Rattle.std.proofs.Common.{◌≡◌, ℕ, ◌+◌, ◌<◌, ◌≤◌, ◌^◌, ◌==◌, Bool, true, not, ◌&&◌, ◌||◌, nat_le, List, [], ◌∷◌, length, map, count_by, Result, Ok, Err, Bor, refl, ap₂, arith, get_or, cond, ◌≢◌, fold, inl, inr}
use Rattle.std.specs.List.{list_all}
use Rattle.std.specs.Option.{IfSome, IfNone}
use Rattle.std.specs.Result.{result_ok, OkIff}
use Rattle.std.specs.Str.{all_ascii_digits}
use Rattle.std.specs.Str.Parse.{digits_value, ParsesUnsigned}
use Rattle.std.proofs.lemmas.Bool.{and_parts, cases_lt}
use Rattle.std.proofs.lemmas.List.Folds.{list_all-map}
use Rattle.std.proofs.lemmas.Str.Parse.{IsNumeralModel, numerals_by_value, tells_all_ascii_digits, parse_plain}
use Rattle.plan_words.specs.Items.{Word}
use Rattle.plan_words.specs.Values.{are_names, is_standard_input, is_number}

fold-map : {X Y Z : Type 0} (g : Z → Y → Z) (f : X → Y) (a : Z) (xs : List X) → fold g a (map f xs) ≡ fold (λ b x. g b (f x)) a xs
fold-map g f a [] = refl
fold-map g f a (x ∷ xs) = fold-map g f (g a (f x)) xs

count_by-map : (p : Word → Bool) (names : List (Bor Word)) → count_by p (map (λ name. name.now) names) ≡ count_by (λ name. p name.now) names
count_by-map p names = fold-map (λ n word. n + cond (p word) 1 0) (λ name. name.now) 0 names

pub are_names-map : (names : List (Bor Word)) → are_names (map (λ name. name.now) names)
    ≡ (list_all (λ name. not (length name.now == 0)) names && nat_le (count_by (λ name. is_standard_input name.now) names) 1)
are_names-map names =
    ap₂ (λ b n. b && nat_le n 1) (list_all-map (λ word. not (length word == 0)) (λ name. name.now) names) (count_by-map is_standard_input names)

own : IsNumeralModel (λ ds. all_ascii_digits ds ≡ true) (digits_value 10)
own = numerals_by_value _ tells_all_ascii_digits

-- what is read of a word that begins with no plus sign
read : {E : Type 0} (word : Word) (r : Result ℕ E) → get_or word 0 0 ≢ 43 → ParsesUnsigned 32 10 word r
    → OkIff r ((all_ascii_digits word ≡ true) × (0 < length word) × (digits_value 10 word < 2 ^ 32)) (digits_value 10 word)
read word r plain h = parse_plain own 32 word r h plain

-- where a word is read, it is a number
pub number-some : {E : Type 0} (first : ℕ) (rest : Word) (r : Result ℕ E) → first ≢ 43 → (not (first == 48) || length rest == 0) ≡ true → ParsesUnsigned 32 10 (first ∷ rest) r
    → IfSome (result_ok r) (λ n. (is_number (first ∷ rest) ≡ true) × (n ≡ digits_value 10 (first ∷ rest)))
number-some {E} first rest (Ok n) plain alone h =
    let is = read {E = E} (first ∷ rest) (Ok n) plain h in
    (rw (is.0.0, alone) refl, is.1)
number-some first rest (Err e) plain alone h = tt

-- where it unread, it is none, or too great
pub number-none : {E : Type 0} (first : ℕ) (rest : Word) (r : Result ℕ E) → first ≢ 43 → ParsesUnsigned 32 10 (first ∷ rest) r
    → IfNone (result_ok r) (is_number (first ∷ rest) ≡ true → 2 ^ 32 ≤ digits_value 10 (first ∷ rest))
number-none first rest (Ok n) plain h = tt
number-none {E} first rest (Err e) plain h = λ number.
    let unread = read {E = E} (first ∷ rest) (Err e) plain h in
    elim (cases_lt (digits_value 10 (first ∷ rest)) (2 ^ 32)) [
      | inl below ↦ absurd (unread ((and_parts _ _ number).0, omega arith, below))
      | inr above ↦ above
    ]
