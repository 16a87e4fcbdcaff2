-- Texts that grow at their end.
use Rattle.std.specs.Prelude.{◌≡◌, ℕ, List, ◌++◌, Result, Ok, Err}

-- the text stands after what was there; at want of memory what was there is left
abbrev pub Appends : {A E : Type 0} → Result A E → List ℕ → List ℕ → List ℕ → Type 0
Appends (Ok done) old new text = new ≡ old ++ text
Appends (Err fault) old new text = new ≡ old
