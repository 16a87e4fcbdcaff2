use Rattle.std.specs.Prelude.{◌≡◌, ℕ, ◌*◌, ◌<◌, ◌≤◌, ◌^◌, List, length, Bool, true, slice_index_or, nat_eq}
use Rattle.std.specs.List.{list_any, IsDistinct}
use Rattle.tuple_store.specs.Bits.{bit_of}

-- the numbers that a trial touched, and the bound below which each number has room
pub record LogView : Type 0 where
  pub numbers : List ℕ
  pub room : ℕ

-- the number is in the list
abbrev pub is_noted : List ℕ → ℕ → Bool
is_noted numbers n = list_any (nat_eq n) numbers

-- the numbers, as many as are counted, are below the room, no two of them equal, and those whose bits
-- are set; each number below the room has room in the list and a bit
pub record IsLog (numbers : List ℕ) (count capacity : ℕ) (words : List ℕ) (room : ℕ) : Type 0 where
  pub counted : count ≡ length numbers
  pub below : (n : ℕ) → is_noted numbers n ≡ true → n < room
  pub distinct : IsDistinct nat_eq numbers
  pub bits : (n : ℕ) → is_noted numbers n ≡ true → bit_of words n ≡ 1
  pub noted : (n : ℕ) → bit_of words n ≡ 1 → is_noted numbers n ≡ true
  pub fits : room ≤ capacity
  pub covered : room ≤ 64 * length words
