use Rattle.std.proofs.Common.{◌≡◌, ℕ, ◌-◌, ◌*◌, ◌%◌, ◌^◌, ◌<◌, ◌≤◌, min, bit_and, arith, w64, sym, ◌∙◌, ap}
use Rattle.std.specs.Int.{bit_at, trailing_zeros}
use Rattle.std.proofs.lemmas.Nat.{and_le_l}
use Rattle.std.proofs.lemmas.Bool.{cases_lt}
use Rattle.std.proofs.Common.{⊎_elim}
use Rattle.std.proofs.lemmas.Nat.Bits.{bit_at_and, bit_at-lt, bit_at_mask_inside, bit_at_mask_below, ones_shl, bit_at-trailing_zeros, same_from_bits_below, bit_at-zero}

-- the bits of a word from one on
abbrev pub from_bit : ℕ → ℕ → ℕ
from_bit word from = bit_and word (18446744073709551615 * 2 ^ from % 18446744073709551616)

masked : (word from : ℕ) → from < 64 → from_bit word from ≡ bit_and word (2 ^ 64 - 2 ^ from)
masked word from h = ap (bit_and word) (ones_shl 64 from (omega arith))

from_bit-inside : (word from i : ℕ) → from < 64 → from ≤ i → i < 64 → bit_at (from_bit word from) i ≡ bit_at word i
from_bit-inside word from i h low high =
    let mask = bit_at_mask_inside from 64 i low high in
    let both = bit_at_and word (2 ^ 64 - 2 ^ from) i in
    let lt = bit_at-lt word i in
    let same : min (bit_at word i) (bit_at (2 ^ 64 - 2 ^ from) i) ≡ bit_at word i = rw mask (omega arith) in
    ap (λ (n : ℕ). bit_at n i) (masked word from h) ∙ both ∙ same

from_bit-below : (word from i : ℕ) → from < 64 → i < from → bit_at (from_bit word from) i ≡ 0
from_bit-below word from i h low =
    let mask = bit_at_mask_below from 64 i low in
    let both = bit_at_and word (2 ^ 64 - 2 ^ from) i in
    let same : min (bit_at word i) (bit_at (2 ^ 64 - 2 ^ from) i) ≡ 0 = rw mask (omega arith) in
    ap (λ (n : ℕ). bit_at n i) (masked word from h) ∙ both ∙ same

small : (word from : ℕ) → word < 2 ^ 64 → from_bit word from < 2 ^ 64
small word from h = let le = and_le_l word (18446744073709551615 * 2 ^ from % 18446744073709551616) in omega arith

-- no bit is set from there on
pub none_from_bit : (word from : ℕ) → from < 64 → from_bit word from ≡ 0 → (i : ℕ) → from ≤ i → i < 64 → bit_at word i ≡ 0
none_from_bit word from h none i low high =
    sym (from_bit-inside word from i h low high) ∙ ap (λ (n : ℕ). bit_at n i) none ∙ bit_at-zero i

-- the lowest bit that is set from there on
pub first_from_bit : (word from : ℕ) → from < 64 → word < 2 ^ 64 → 0 < from_bit word from → let bit = trailing_zeros w64 (from_bit word from) in (from ≤ bit) × (bit < 64) × (bit_at word bit ≡ 1)
first_from_bit word from h fits some =
    let found = bit_at-trailing_zeros w64 (from_bit word from) some (small word from fits) in
    let bit = trailing_zeros w64 (from_bit word from) in
    let low : from ≤ bit = ⊎_elim (λ lt. absurd (let e = from_bit-below word from bit h lt in let f = found.1 in omega arith)) (λ le. le) (cases_lt bit from) in
    (low, found.0, sym (from_bit-inside word from bit h low found.0) ∙ found.1)

pub least_from_bit : (word from : ℕ) → from < 64 → word < 2 ^ 64 → 0 < from_bit word from → (i : ℕ) → from ≤ i → i < trailing_zeros w64 (from_bit word from) → bit_at word i ≡ 0
least_from_bit word from h fits some i low high =
    let found = bit_at-trailing_zeros w64 (from_bit word from) some (small word from fits) in
    let within : i < 64 = let f : trailing_zeros w64 (from_bit word from) < 64 = found.0 in omega arith in
    sym (from_bit-inside word from i h low within) ∙ found.2 i high
