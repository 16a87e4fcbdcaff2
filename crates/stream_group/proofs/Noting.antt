-- Numbers that were noted, and one more.
use Rattle.std.proofs.Common.{◌≡◌, ◌<◌, ◌^◌, ◌*◌, ◌%◌, ◌∙◌, ◌||◌, ℕ, ℤ, pos, Bool, true, false, not, cond, List, refl, ap, sym, subst, nat_eq, bit_and, bit_or}
use Rattle.std.proofs.Math.Bool.{or-false}
use Rattle.std.proofs.Math.IntN.{nat_abs}
use Rattle.std.specs.Ordering.{int_eq}
use Rattle.stream_group.specs.declared.noted.Noted.{Noted}
use Rattle.stream_group.specs.Noted.{Adds, FillsList, Knows, KnowsMore, is_bit, is_other, is_small, knows}
use Rattle.stream_group.proofs.Bits.{apart, bit_more, bit_new, small_is}
use Rattle.stream_group.proofs.Seen.{member-push}

-- one number more, where each is known that was, and that one
known_more : (old later : Noted) (numbers : List ℤ) (number : ℤ) (is_new : Bool) → ((q : ℤ) → knows later q ≡ (knows old q || int_eq q number)) → is_new ≡ not (knows old number) → FillsList later → Knows old numbers → KnowsMore later numbers number is_new
known_more old later numbers number is_new each new first was = record {
  knows = record { same = λ q. each q ∙ ap (λ (b : Bool). b || int_eq q number) (was.same q) ∙ sym (member-push numbers number q); first = first };
  new = new ∙ ap not (was.same number);
}

-- of two numbers one is from 0 to 63 and the other isn't
other_size : (one other : ℤ) (b c : Bool) → is_small one ≡ b → is_small other ≡ c → (b ≡ c → ⊥) → int_eq one other ≡ false
other_size one other b c is also differ = apart one other (λ same. differ (sym is ∙ ap is_small same ∙ also))

unchanged : (b : Bool) (one other : ℤ) → int_eq one other ≡ false → b ≡ (b || int_eq one other)
unchanged b one other is = sym (or-false b) ∙ ap (λ (c : Bool). b || c) (sym is)

-- what was noted with a bit more
abbrev with_bit : Noted → ℕ → Noted
with_bit noted n = record { small = bit_or noted.small (1 * 2 ^ n % 2 ^ 64); few = noted.few; more = noted.more }

bit_noted : (old : Noted) (numbers : List ℤ) (n : ℕ) → n < 64 → is_small (pos n) ≡ true → Knows old numbers → KnowsMore (with_bit old n) numbers (pos n) (nat_eq (bit_and old.small (1 * 2 ^ n % 2 ^ 64)) 0)
bit_noted old numbers n within small was =
    known_more old (with_bit old n) numbers (pos n) _ (λ q.
    elim (is_small q) as (λ b. is_small q ≡ b → cond b (is_bit (bit_or old.small (1 * 2 ^ n % 2 ^ 64)) q) (is_other old q) ≡ (cond b (is_bit old.small q) (is_other old q) || int_eq q (pos n))) [
      | true ↦ λ is. bit_more old.small n within q
      | false ↦ λ is. unchanged (is_other old q) q (pos n) (other_size q (pos n) false true is small (λ no. cc))
    ] refl)
    (bit_new old.small n within ∙ ap (λ (b : Bool). not (cond b (is_bit old.small (pos n)) (is_other old (pos n)))) (sym small)) was.first was

-- a number from 0 to 63 is noted
pub small_noted : (old : Noted) (numbers : List ℤ) (number read : ℤ) → read ≡ number → is_small number ≡ true → Knows old numbers → KnowsMore (with_bit old (nat_abs read)) numbers number (nat_eq (bit_and old.small (1 * 2 ^ nat_abs read % 2 ^ 64)) 0)
small_noted old numbers number read is small was =
    let found = small_is number small in
    let n = found.0 in
    let same : number ≡ pos n = found.1 in
    subst (λ (z : ℤ). KnowsMore (with_bit old (nat_abs z)) numbers number (nat_eq (bit_and old.small (1 * 2 ^ nat_abs z % 2 ^ 64)) 0)) (sym (is ∙ same))
    (subst (λ (z : ℤ). KnowsMore (with_bit old n) numbers z (nat_eq (bit_and old.small (1 * 2 ^ n % 2 ^ 64)) 0)) (sym same)
    (bit_noted old numbers n found.2 (ap is_small (sym same) ∙ small) was))

-- another number is noted
pub large_noted : (old later : Noted) (numbers : List ℤ) (number : ℤ) (is_new : Bool) → is_small number ≡ false → later.small ≡ old.small → Adds old later number is_new → Knows old numbers → KnowsMore later numbers number is_new
large_noted old later numbers number is_new large small adds was =
    known_more old later numbers number is_new (λ q.
    elim (is_small q) as (λ b. is_small q ≡ b → cond b (is_bit later.small q) (is_other later q) ≡ (cond b (is_bit old.small q) (is_other old q) || int_eq q number)) [
      | true ↦ λ is. ap (λ (word : ℕ). is_bit word q) small ∙ unchanged (is_bit old.small q) q number (other_size q number true false is large (λ no. cc))
      | false ↦ λ is. adds.same was.first q
    ] refl)
    (adds.new was.first ∙ ap (λ (b : Bool). not (cond b (is_bit old.small number) (is_other old number))) (sym large)) (adds.first was.first) was
