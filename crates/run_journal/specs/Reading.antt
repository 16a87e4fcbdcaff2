-- A journal that is read line by line.
use Rattle.std.specs.Prelude.{ℕ, List, ◌++◌, length, Result, Ok, Err}
use Rattle.run_journal.specs.Bounds.{bounds_from}
use Rattle.run_journal.specs.declared.read.Reading.{Reading}

-- boundaries in front of those that are read
abbrev pub with_bounds : List ℕ → Result (List ℕ) ℕ → Result (List ℕ) ℕ
with_bounds bounds (Ok more) = Ok (bounds ++ more)
with_bounds bounds (Err line) = Err line

-- what all lines say, where these stand behind those that were read
abbrev pub meant : ℕ → Reading → List (List ℕ) → Result (List ℕ) ℕ
meant steps reading lines =
    with_bounds reading.bounds (bounds_from steps reading.lines (length reading.bounds) reading.low lines)
