-- Numbered words of a ChaCha20 generator, and a number below a bound from a word.
use Rattle.std.specs.Prelude.{ℕ, ◌+◌, ◌-◌, ◌*◌, ◌/◌, ◌^◌, List, ◌++◌, map, replicate}
use Rattle.std.specs.Int.{w64, to_le_bytes}
use Rattle.std.specs.List.{range_with_len}
use Rattle.rand_chacha.specs.ChaCha.{word_at, key_of}

-- the key under a seed: the seed's 8 bytes, lowest first, then 24 zero bytes
abbrev pub key : ℕ → List ℕ
key seed = key_of (to_le_bytes w64 seed ++ replicate 24 0)

-- the word at a place of a step's stream: step k has the ChaCha20 stream k - 1, of 10 double rounds
unfoldable pub word : ℕ → ℕ → ℕ → ℕ
word seed step place = word_at 10 (key seed) (step - 1) place

-- the words of a candidate in a step: those at the eight places from 8 * number on
abbrev pub words : ℕ → ℕ → ℕ → List ℕ
words seed step number = map (λ k. word seed step (8 * number + k)) (range_with_len 0 8)

-- the whole part of w * n / 2^32
abbrev pub pick : ℕ → ℕ → ℕ
pick w n = w * n / 2 ^ 32
