use Rattle.std.specs.Prelude.{ℕ, ◌/◌, ◌%◌, List, slice_index_or}
use Rattle.std.specs.Int.{bit_at}

-- the bit of a number in words of 64 bits, 0 past the last word
abbrev pub bit_of : List ℕ → ℕ → ℕ
bit_of words n = bit_at (slice_index_or words (n / 64) 0) (n % 64)
