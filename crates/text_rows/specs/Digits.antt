-- Digits of numbers, as bytes of text.
use Rattle.std.specs.Prelude.{ℕ, ◌+◌, ◌%◌}

-- the last digit of a number; 48 is the digit 0
abbrev pub last_digit : ℕ → ℕ
last_digit number = 48 + number % 10
