use Rattle.std.proofs.Common.{◌≡◌, ℕ, ◌+◌, ◌*◌, ◌<◌, slice_index}
use Rattle.rand_chacha.specs.ChaCha.{word_at}
use Rattle.plan_draws.proofs.block_words.Given as goal

-- the words so far stand in front, and the generator stands behind them
abbrev pub invariant-loop-word : goal.invariant-loop-word
invariant-loop-word l =
    ((k : ℕ) → k < l.word-index → slice_index l.word-items k ≡ word_at 10 l.fn.generator.key l.stream (16 * l.block + k))
    × (l.generator ≡ record { key = l.fn.generator.key; stream = l.stream; word_pos = 16 * l.block + l.word-index })
