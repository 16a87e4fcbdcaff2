-- What follows where a test doesn't hold.
use Rattle.std.proofs.Common.{◌≡◌, ℕ, ◌≤◌, ◌<◌, ◌||◌, Bool, true, false, refl, arith, nat_lt}
use Rattle.std.specs.Prelude.{nat_le}
use Rattle.std.proofs.lemmas.Bool.Decides.{nat_tests}

-- neither of two tests holds
pub neither : (a b : Bool) → (a || b) ≡ false → (a ≡ false) × (b ≡ false)
neither false b none = (refl, none)
neither true b none = cc

-- a number isn't above a limit
pub within : (most n : ℕ) → nat_lt most n ≡ false → n ≤ most
within most n none = grind (arith, nat_tests)

-- a number is below what it doesn't reach
pub below : (most n : ℕ) → nat_le most n ≡ false → n < most
below most n none = grind (arith, nat_tests)
