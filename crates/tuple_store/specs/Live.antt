use Rattle.std.specs.Prelude.{◌≡◌, ℕ, ◌*◌, ◌<◌, ◌≤◌, ◌^◌, List, length, Option, None, true, is_some, slice_index_or, if◌then◌else◌}
use Rattle.tuple_store.specs.declared.held.Held.{Held}
use Rattle.tuple_store.specs.Bits.{bit_of}
use Rattle.tuple_store.specs.Rows.{is_now, shown}

-- the slot at a number
abbrev pub slot_at : {T : Type 0} → List (Option (Held T)) → ℕ → Option (Held T)
slot_at slots n = slice_index_or slots n None

-- just the numbers of rows in the contents have their bits set, and each row's number has a bit
pub record HasBits {T : Type 0} (slots : List (Option (Held T))) (words : List ℕ) : Type 0 where
  pub bits : (n : ℕ) → bit_of words n ≡ (if is_some (shown is_now (slot_at slots n)) then 1 else 0)
  pub covered : (n : ℕ) → is_some (slot_at slots n) ≡ true → n < 64 * length words
  pub short : 64 * length words ≤ 2 ^ 64
