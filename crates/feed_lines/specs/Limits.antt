-- How long a feed and its lines may be.
use Rattle.std.specs.Prelude.{ℕ, ◌^◌}

-- the most bytes of a line, without its line feed
abbrev pub longest_line : ℕ
longest_line = 65536

-- the most lines of a feed
abbrev pub most_lines : ℕ
most_lines = 4096

-- the most bytes of a feed
abbrev pub most_bytes : ℕ
most_bytes = 2 ^ 30
