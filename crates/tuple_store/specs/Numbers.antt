use Rattle.std.specs.Prelude.{ℕ, Bool, true, List, Option, Some, None, filter, nat_lt}
use Rattle.std.specs.Ordering.{nat_cmp}
use Rattle.std.specs.FinMap as map

-- a number stands above another one; each stands above none
abbrev pub is_above : Option ℕ → ℕ → Bool
is_above None n = true
is_above (Some after) n = nat_lt after n

-- the live numbers above `after`, or all of them, in increasing order
abbrev pub numbers_above : {T : Type 0} → Option ℕ → map.FinMap nat_cmp T → List ℕ
numbers_above after rows = filter (is_above after) (map.keys rows)
