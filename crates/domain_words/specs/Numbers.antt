-- Numbers that may not be there: how two compare, how far one is above another, and keys made of them.
use Rattle.std.specs.Prelude.{◌&&◌, ℕ, ℤ, pos, negsuc, neg_ℤ, ◌-ℤ◌, min, not, Bool, false, int_lt, int_le}
use Rattle.std.specs.Prelude.{Option, Some, None}
use Rattle.std.specs.Option.{option_map_or}
use Rattle.std.specs.Ordering.{int_eq}
use Rattle.std.specs.Int.{int_min, int_max}
use Rattle.plan_rules.specs.Limits.{key_limit}

-- both numbers are there, and a test of the two holds
abbrev pub both : (ℤ → ℤ → Bool) → Option ℤ → Option ℤ → Bool
both test (Some one) (Some other) = test one other
both test (Some one) None = false
both test None other = false

-- the second number is the first one, or above it by at most so much
abbrev pub is_soon_after : ℕ → ℤ → ℤ → Bool
is_soon_after most one other = int_le (pos 0) (other -ℤ one) && int_le (other -ℤ one) (pos most)

-- the first number is above the second
abbrev pub is_above : ℤ → ℤ → Bool
is_above one other = int_lt other one

-- the numbers differ
abbrev pub are_different : ℤ → ℤ → Bool
are_different one other = not (int_eq one other)

-- a number, but 0 where it is negative, and the cap where it is above that
abbrev pub clip : ℕ → ℤ → ℕ
clip cap (pos n) = min n cap
clip cap (negsuc n) = 0

-- how far the first number is above the second, clipped; 0 where either isn't there
abbrev pub clipped_excess : ℕ → Option ℤ → Option ℤ → ℕ
clipped_excess cap (Some one) (Some other) = clip cap (one -ℤ other)
clipped_excess cap (Some one) None = 0
clipped_excess cap None other = 0

-- the greatest weight that a weigher gives
abbrev pub weight_cap : ℕ
weight_cap = 10000

-- how far the first number is above the second, as a weight
abbrev pub excess_weight : Option ℤ → Option ℤ → ℕ
excess_weight one other = clipped_excess weight_cap one other

-- a number as a key: the nearest one that a key may be
abbrev pub as_key : ℤ → ℤ
as_key number = int_max (neg_ℤ (pos key_limit)) (int_min (pos key_limit) number)

-- a number as a key, or 0 where it isn't there
abbrev pub key_or_zero : Option ℤ → ℤ
key_or_zero number = option_map_or as_key number (pos 0)
