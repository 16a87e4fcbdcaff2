-- What is read of a source into a window, and the first line that stands ahead.
use Rattle.std.specs.Prelude.{◌≡◌, ◌<◌, ◌≤◌, ℕ, ◌+◌, Bool, true, List, [], ◌++◌, Option, Some, None, length, take, drop, position, nat_lt, if◌then◌else◌}
use Rattle.plan_ports.specs.Outside.{SourceState}
use Rattle.feed_lines.specs.Limits.{longest_line}
use Rattle.feed_lines.specs.Parts.{is_feed, first_line, after_line, line_end}
use Rattle.feed_lines.specs.Given.{given_line}
use Rattle.feed_lines.specs.declared.window.LineEnd.{LineEnd}
use Rattle.feed_lines.specs.declared.window.LineEnd.TheVariants.{Feed, Input, Far}
use Rattle.feed_lines.specs.declared.window.Found.{Found}

-- the bytes ahead: those of the window, then those that are left of the source
abbrev pub bytes_ahead : List ℕ → SourceState → List ℕ
bytes_ahead window source = window ++ source.left

-- what was read from the source stands in the window, where the source tells its bytes
abbrev pub KeepsAhead : List ℕ → List ℕ → SourceState → SourceState → Type 0
KeepsAhead old new source_old source_new =
    source_old.tells ≡ true → bytes_ahead new source_new ≡ bytes_ahead old source_old

-- n bytes of the source were appended to the window; none at the end of the source
pub record Fills (n : ℕ) (old new : List ℕ) (source_old source_new : SourceState) : Type 0 where
  pub size : length new ≡ length old + n
  pub front : take (length old) new ≡ old
  pub ahead : KeepsAhead old new source_old source_new
  pub end : n ≡ 0 → source_old.tells ≡ true → source_new.left ≡ []

-- the first line of the window ends there
abbrev pub Ends : LineEnd → List ℕ → SourceState → Type 0
Ends (Feed n) window source = position is_feed window ≡ Some n
Ends Input window source = (position is_feed window ≡ None) × (source.tells ≡ true → source.left ≡ [])
Ends Far window source = (position is_feed window ≡ None) × (longest_line < length window)

-- the first line ahead was passed, which took n bytes
pub record IsPassed (n : ℕ) (old new : List ℕ) : Type 0 where
  pub taken : n ≡ line_end old
  pub after : new ≡ after_line old

-- the first line ahead was passed, where the source tells its bytes
abbrev pub Skips : ℕ → List ℕ → List ℕ → SourceState → SourceState → Type 0
Skips n old new source_old source_new =
    source_old.tells ≡ true → IsPassed n (bytes_ahead old source_old) (bytes_ahead new source_new)

-- the first line ahead takes more bytes than so many, where the source tells its bytes
abbrev pub IsPast : ℕ → List ℕ → SourceState → Type 0
IsPast room window source = source.tells ≡ true → room < line_end (bytes_ahead window source)

-- what was found lies within the window
pub record IsWithin (found : Found) (window : List ℕ) : Type 0 where
  pub size : found.size ≤ found.end
  pub end : found.end ≤ length window

-- the line that was found, at the front of the window; none where it is too long
abbrev pub found_line : Found → List ℕ → Option (List ℕ)
found_line found window = if found.is_long then None else Some (take found.size window)

-- the first line ahead was found
pub record IsFound (found : Found) (ahead window : List ℕ) (source : SourceState) : Type 0 where
  pub taken : found.taken ≡ line_end ahead
  pub line : found_line found window ≡ given_line (first_line ahead)
  pub after : bytes_ahead (drop found.end window) source ≡ after_line ahead

-- the first line ahead was found, where the source tells its bytes
abbrev pub Finds : Found → List ℕ → List ℕ → SourceState → SourceState → Type 0
Finds found old new source_old source_new =
    source_old.tells ≡ true → IsFound found (bytes_ahead old source_old) new source_new

-- whether there is a byte ahead, where the source tells its bytes
abbrev pub TellsMore : Bool → List ℕ → SourceState → Type 0
TellsMore more window source = source.tells ≡ true → more ≡ nat_lt 0 (length (bytes_ahead window source))
