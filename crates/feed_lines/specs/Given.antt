-- Lines as they are given.
use Rattle.std.specs.Prelude.{ℕ, nat_lt, List, Option, Some, None, length, if◌then◌else◌}
use Rattle.feed_lines.specs.Limits.{longest_line}

-- a line as it is given: none where it is too long
abbrev pub given_line : List ℕ → Option (List ℕ)
given_line line = if nat_lt longest_line (length line) then None else Some line
