-- The values of a command line: names and numbers.
use Rattle.std.specs.Prelude.{ℕ, Bool, false, not, ◌==◌, ◌&&◌, ◌||◌, nat_le, List, [], ◌∷◌, length, codes, Option, Some, None, if◌then◌else◌, count_by}
use Rattle.std.specs.List.{list_all}
use Rattle.std.specs.Option.{option_map_or}
use Rattle.std.specs.Str.{bytes_eq, all_ascii_digits}
use Rattle.std.specs.Str.Parse.{digits_value}
use Rattle.plan_words.specs.Items.{Word}

-- the name of standard input
abbrev pub is_standard_input : Word → Bool
is_standard_input word = bytes_eq word (codes "@")

-- none of the names is empty, and standard input is at most one of them
abbrev pub are_names : List Word → Bool
are_names words = list_all (λ word. not (length word == 0)) words && nat_le (count_by is_standard_input words) 1

-- decimal digits, without a sign; a zero in front stands alone
abbrev pub is_number : Word → Bool
is_number [] = false
is_number (digit ∷ rest) = all_ascii_digits (digit ∷ rest) && (not (digit == 48) || length rest == 0)

-- the number that the word is, from low to high
abbrev pub number_in : ℕ → ℕ → Word → Option ℕ
number_in low high word =
    let number = digits_value 10 word in
    if is_number word && (nat_le low number && nat_le number high) then Some number else None

-- the same of a word that may be absent, with what is usual then
abbrev pub number_or : ℕ → ℕ → ℕ → Option Word → Option ℕ
number_or usual low high word = option_map_or (number_in low high) word (Some usual)
