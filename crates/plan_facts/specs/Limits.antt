-- The limits of plans and of what they hold.
use Rattle.std.specs.Prelude.{ℕ}

-- as many facts as may ever be made
abbrev pub fact_limit : ℕ
fact_limit = 100000

-- the greatest number that a field holds, and with a minus sign the least; also the greatest id that a file may give
abbrev pub field_limit : ℕ
field_limit = 1000000000

-- the greatest weight of a rule
abbrev pub weight_limit : ℕ
weight_limit = 1000000
