-- The lines that bytes are.
use Rattle.std.specs.Prelude.{ℕ, ◌+◌, ◌==◌, Bool, List, [], ◌∷◌, length, min, if◌then◌else◌}
use Rattle.std.specs.List.{before_first, after_first, position_or_len}

-- the byte is a line feed
abbrev pub is_feed : ℕ → Bool
is_feed b = b == 10

-- a byte more at the front of the first line
abbrev pub before_lines : ℕ → List (List ℕ) → List (List ℕ)
before_lines b [] = (b ∷ []) ∷ []
before_lines b (line ∷ lines) = (b ∷ line) ∷ lines

-- the lines: the parts that end in a line feed, without it, and what stands behind the last one, unless that is empty
abbrev pub lines_in : List ℕ → List (List ℕ)
lines_in [] = []
lines_in (b ∷ bytes) = if is_feed b then [] ∷ lines_in bytes else before_lines b (lines_in bytes)

-- what stands before the first line feed, or all where there is none
abbrev pub first_line : List ℕ → List ℕ
first_line bytes = before_first is_feed bytes

-- what stands behind the first line feed
abbrev pub after_line : List ℕ → List ℕ
after_line bytes = after_first is_feed bytes

-- how many bytes the first line takes, with its line feed
abbrev pub line_end : List ℕ → ℕ
line_end bytes = min (position_or_len is_feed bytes + 1) (length bytes)
