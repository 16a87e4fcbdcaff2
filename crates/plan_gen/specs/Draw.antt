-- The numbers that a generated problem is made from: those of a linear congruential generator.
use Rattle.std.specs.Prelude.{ℕ, zero, suc, ◌+◌, ◌*◌, ◌/◌, ◌%◌, ◌^◌}

-- the generator's state after one more draw
abbrev pub next_state : ℕ → ℕ
next_state x = (1103515245 * x + 12345) % 2 ^ 31

-- the state after so many draws: it begins as the number modulo 2^31
unfoldable pub state_after : ℕ → ℕ → ℕ
state_after number zero = number % 2 ^ 31
state_after number (suc drawn) = next_state (state_after number drawn)

-- what a state gives below a bound: the whole part of the state / 65536, modulo the bound
abbrev pub given_by : ℕ → ℕ → ℕ
given_by state bound = state / 65536 % bound

-- the draw at a place, from 0, below a bound: what the state after it gives
abbrev pub draw : ℕ → ℕ → ℕ → ℕ
draw number place bound = given_by (state_after number (place + 1)) bound
