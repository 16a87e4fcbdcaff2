-- Texts that are put behind others.
use Rattle.std.specs.Prelude.{◌≡◌, ◌++◌, List, ℕ, Result, OnOk}

-- the text stands behind what was there, unless memory was wanting
abbrev pub Puts : {A E : Type 0} → Result A E → List ℕ → List ℕ → List ℕ → Type 0
Puts result old new text = OnOk result (new ≡ old ++ text)
