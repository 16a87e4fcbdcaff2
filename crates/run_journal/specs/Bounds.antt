-- The boundaries that the change lines of a journal name.
use Rattle.std.specs.Prelude.{ℕ, ◌+◌, ◌==◌, nat_eq, List, [], ◌∷◌, length, take, drop, codes, Option, Some, None, option_map, option_and_then, Result, Ok, Err, if◌then◌else◌}
use Rattle.std.specs.Cmp.Lexicographic.{pointwise}
use Rattle.std.specs.List.{after_first}
use Rattle.feed_lines.specs.Parts.{lines_in}
use Rattle.run_journal.specs.Numbers.{is_space, number_before_space}

-- what stands behind a prefix; none where the bytes don't begin with it
abbrev pub after_prefix : List ℕ → List ℕ → Option (List ℕ)
after_prefix prefix bytes =
    if pointwise nat_eq (take (length prefix) bytes) prefix then Some (drop (length prefix) bytes) else None

-- the boundary from low to high that stands behind the number of a change, each before a space
abbrev pub boundary_in : ℕ → ℕ → ℕ → List ℕ → Option ℕ
boundary_in number low high text =
    option_and_then (λ n. number_before_space low high (after_first is_space text))
    (number_before_space number number text)

-- what a line says of the change with the number: nothing where it is no change line; then the boundary, if it is right
abbrev pub line_boundary : ℕ → ℕ → ℕ → List ℕ → Option (Option ℕ)
line_boundary number low high line = option_map (boundary_in number low high) (after_prefix (codes "change ") line)

-- a boundary in front of those that are read
abbrev pub with_bound : ℕ → Result (List ℕ) ℕ → Result (List ℕ) ℕ
with_bound bound (Ok bounds) = Ok (bound ∷ bounds)
with_bound bound (Err line) = Err line

-- a line with this number, by what it says: it is passed over, refuses the journal, or names a boundary
abbrev pub by_line : ℕ → Option (Option ℕ) → Result (List ℕ) ℕ → (ℕ → Result (List ℕ) ℕ) → Result (List ℕ) ℕ
by_line line None passed taken = passed
by_line line (Some None) passed taken = Err line
by_line line (Some (Some bound)) passed taken = with_bound bound (taken bound)

-- the boundaries that lines name, or the number of the first change line that breaks the rule, where so many lines and so many
-- change lines stand before them: a change line has the next number, and a boundary from the last one to the step limit
abbrev pub bounds_from : ℕ → ℕ → ℕ → ℕ → List (List ℕ) → Result (List ℕ) ℕ
bounds_from steps before count low [] = Ok []
bounds_from steps before count low (line ∷ lines) =
    by_line (before + 1) (line_boundary (count + 1) low steps line)
    (bounds_from steps (before + 1) count low lines)
    (λ bound. bounds_from steps (before + 1) (count + 1) bound lines)

-- so many boundaries, or else the number behind the last line
abbrev pub counted : ℕ → ℕ → Result (List ℕ) ℕ → Result (List ℕ) ℕ
counted count past (Err line) = Err line
counted count past (Ok bounds) = if length bounds == count then Ok bounds else Err past

-- the boundary of each line of a feed that has so many, by a journal's bytes and the step limit; or the number of the line that
-- refuses the journal
unfoldable pub bounds_of : List ℕ → ℕ → ℕ → Result (List ℕ) ℕ
bounds_of bytes count steps =
    counted count (length (lines_in bytes) + 1) (bounds_from steps 0 0 0 (lines_in bytes))
