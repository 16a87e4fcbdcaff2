-- Numbers in a journal.
use Rattle.std.specs.Prelude.{ℕ, Bool, false, not, ◌==◌, ◌&&◌, ◌||◌, nat_le, List, [], ◌∷◌, length, take, position, Option, Some, None, option_and_then, if◌then◌else◌}
use Rattle.std.specs.Str.{all_ascii_digits}
use Rattle.std.specs.Str.Parse.{digits_value}

-- the byte is a space
abbrev pub is_space : ℕ → Bool
is_space b = b == 32

-- decimal digits, without a sign; a zero in front stands alone
abbrev pub is_number : List ℕ → Bool
is_number [] = false
is_number (digit ∷ rest) = all_ascii_digits (digit ∷ rest) && (not (digit == 48) || length rest == 0)

-- the number that the word is, from low to high
abbrev pub number_in : ℕ → ℕ → List ℕ → Option ℕ
number_in low high word =
    let number = digits_value 10 word in
    if is_number word && (nat_le low number && nat_le number high) then Some number else None

-- the number before the first space, from low to high; none where there is no space
abbrev pub number_before_space : ℕ → ℕ → List ℕ → Option ℕ
number_before_space low high bytes = option_and_then (λ n. number_in low high (take n bytes)) (position is_space bytes)
