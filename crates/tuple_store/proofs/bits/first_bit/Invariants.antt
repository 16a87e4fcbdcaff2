use Rattle.std.proofs.Common.{◌≡◌, ℕ, ◌*◌, ◌<◌, ◌≤◌}
use Rattle.tuple_store.specs.Bits.{bit_of}
use Rattle.tuple_store.proofs.bits.first_bit.Given as goal

-- no number below the word's has its bit set
abbrev pub invariant-loop-place : goal.invariant-loop-place
invariant-loop-place l = (q : ℕ) → l.fn.from ≤ q → q < l.place * 64 → bit_of l.words q ≡ 0
