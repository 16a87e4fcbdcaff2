-- Numbers from 0 to 63 as the bits of a word.
use Rattle.std.proofs.Common.{◌≡◌, ◌<◌, ◌^◌, ◌*◌, ◌%◌, ◌∙◌, ◌||◌, ℕ, ℤ, pos, negsuc, Bool, true, false, not, refl, ap, sym, arith, tests, w64, nat_eq, bit_and, bit_or}
use Rattle.std.specs.Cmp.{signed_Decides}
use Rattle.std.specs.Int.{bit_at}
use Rattle.std.specs.Ordering.{int_eq}
use Rattle.std.proofs.Math.Bool.{or-false}
use Rattle.std.proofs.lemmas.Int.{ints}
use Rattle.std.proofs.lemmas.Nat.{one_shl, pow_pos}
use Rattle.std.proofs.lemmas.Nat.Bits.{and_pow, bit_at-lt, bit_at_set_other, bit_at_set_same}
use Rattle.stream_group.specs.Noted.{is_bit, is_small}

-- numbers are told apart
pub apart : (one other : ℤ) → (one ≡ other → ⊥) → int_eq one other ≡ false
apart one other different = elim (int_eq one other) as (λ b. int_eq one other ≡ b → b ≡ false) [ true ↦ λ is. absurd (different ((signed_Decides one other).0 is)) | false ↦ λ is. refl ] refl

or_true : (b : Bool) → (b || true) ≡ true
or_true true = refl
or_true false = refl

-- a number from 0 to 63
pub small_is : (z : ℤ) → is_small z ≡ true → (n : ℕ) × (z ≡ pos n) × (n < 64)
small_is (pos n) small = (n, refl, grind (arith, ints, tests, small))
small_is (negsuc n) small = absurd (let no : false ≡ true = small in cc)

-- a bit besides
pub bit_more : (word n : ℕ) → n < 64 → (q : ℤ) → is_bit (bit_or word (1 * 2 ^ n % 2 ^ 64)) q ≡ (is_bit word q || int_eq q (pos n))
bit_more word n within (negsuc i) = sym (apart (negsuc i) (pos n) (λ is. omega (arith, ints, is)))
bit_more word n within (pos i) =
    elim (nat_eq i n) as (λ b. nat_eq i n ≡ b → nat_eq (bit_at (bit_or word (1 * 2 ^ n % 2 ^ 64)) i) 1 ≡ (nat_eq (bit_at word i) 1 || int_eq (pos i) (pos n))) [
      | true ↦ λ same.
          let is : i ≡ n = grind (arith, tests, same) in
          ap (λ (k : ℕ). nat_eq (bit_at (bit_or word (1 * 2 ^ n % 2 ^ 64)) k) 1) is
          ∙ ap (λ (b : ℕ). nat_eq b 1) (bit_at_set_same w64 word n within)
          ∙ sym (or_true (nat_eq (bit_at word i) 1))
          ∙ ap (λ (b : Bool). nat_eq (bit_at word i) 1 || b) (sym ((signed_Decides (pos i) (pos n)).1 (ap pos is)))
      | false ↦ λ other.
          let not_same : i ≡ n → ⊥ = λ is. grind (arith, tests, other, is) in
          ap (λ (b : ℕ). nat_eq b 1) (bit_at_set_other w64 word n within i not_same)
          ∙ sym (or-false (nat_eq (bit_at word i) 1))
          ∙ ap (λ (b : Bool). nat_eq (bit_at word i) 1 || b) (sym (apart (pos i) (pos n) (λ is. not_same (omega (arith, ints, is)))))
    ] refl

-- a bit that isn't set
pub bit_new : (word n : ℕ) → n < 64 → nat_eq (bit_and word (1 * 2 ^ n % 2 ^ 64)) 0 ≡ not (is_bit word (pos n))
bit_new word n within = grind (arith, tests, one_shl n 64 within, and_pow word n, pow_pos n, bit_at-lt word n)
