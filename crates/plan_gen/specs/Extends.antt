-- What a writer leaves, whether it wrote all or gave up.
use Rattle.std.specs.Prelude.{◌≡◌, ℕ, List, length, take}

-- the new text begins with the whole old one
pub record Extends (old new : List ℕ) : Type 0 where
  pub front : take (length old) new ≡ old
