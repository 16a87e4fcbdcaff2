-- The limits of what closures answer and of what rules make.
use Rattle.std.specs.Prelude.{ℕ, ◌^◌}

-- the greatest key, which is also how far a key may be below 0
abbrev pub key_limit : ℕ
key_limit = 1000000000

-- the greatest cap of a match weight
abbrev pub cap_limit : ℕ
cap_limit = 1000000000

-- as many rows as a stream may have
abbrev pub row_limit : ℕ
row_limit = 2 ^ 32

-- as much as the rules may add up to
abbrev pub score_limit : ℕ
score_limit = 2 ^ 62
