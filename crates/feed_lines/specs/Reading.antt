-- A feed that is read line by line.
use Rattle.std.specs.Prelude.{◌≡◌, ℕ, ◌+◌, ◌==◌, Bool, true, false, ◌||◌, ◌&&◌, nat_lt, List, [], ◌∷◌, Option, Some, length, if◌then◌else◌}
use Rattle.plan_ports.specs.Outside.{SourceState}
use Rattle.feed_lines.specs.Given.{given_line}
use Rattle.feed_lines.specs.Limits.{most_lines, most_bytes}
use Rattle.feed_lines.specs.Parts.{lines_in, first_line, line_end}
use Rattle.feed_lines.specs.Windows.{bytes_ahead}

-- what a reader of lines holds: the line that it gave last, none where that is too long; the bytes that it read behind that
-- line; how many lines it gave, and how many bytes these had with their line feeds
pub record LinesView : Type 0 where
  pub line : Option (List ℕ)
  pub held : List ℕ
  pub count : ℕ
  pub passed : ℕ

-- the reader of these parts
abbrev pub view_of : Option (List ℕ) → List ℕ → ℕ → ℕ → LinesView
view_of line held count passed = record { line = line; held = held; count = count; passed = passed }

-- a reader that has read nothing
abbrev pub fresh_lines : LinesView
fresh_lines = view_of (Some []) [] 0 0

-- what is ahead of a feed: how many lines and bytes of it were given, and its further bytes
pub record Ahead : Type 0 where
  pub count : ℕ
  pub passed : ℕ
  pub bytes : List ℕ

-- a feed of which nothing was given
abbrev pub whole_feed : List ℕ → Ahead
whole_feed bytes = record { count = 0; passed = 0; bytes = bytes }

-- what is ahead of a feed: the bytes that were read of it and not given, then those that are left of its source
abbrev pub ahead_of : LinesView → SourceState → Ahead
ahead_of lines source =
    record { count = lines.count; passed = lines.passed; bytes = bytes_ahead lines.held source }

-- there is a byte ahead
abbrev pub has_more : List ℕ → Bool
has_more bytes = nat_lt 0 (length bytes)

-- the next line is one too many, or doesn't end within the most bytes of a feed
abbrev pub is_next_over : Ahead → Bool
is_next_over ahead =
    has_more ahead.bytes
    && (ahead.count == most_lines || nat_lt most_bytes (ahead.passed + line_end ahead.bytes))

-- the feed has too many lines or bytes
abbrev pub is_overlong : Ahead → Bool
is_overlong ahead =
    nat_lt most_lines (ahead.count + length (lines_in ahead.bytes))
    || nat_lt most_bytes (ahead.passed + length ahead.bytes)

-- the first line ahead was given
pub record GivesLine (line : Option (List ℕ)) (old new : Ahead) : Type 0 where
  pub shown : line ≡ given_line (first_line old.bytes)
  pub lines : lines_in old.bytes ≡ first_line old.bytes ∷ lines_in new.bytes
  pub count : new.count ≡ old.count + 1
  pub bytes : new.passed + length new.bytes ≡ old.passed + length old.bytes
  pub overlong : is_overlong new ≡ is_overlong old

-- nothing is ahead, and the feed isn't overlong
pub record IsEnd (ahead : Ahead) : Type 0 where
  pub bytes : ahead.bytes ≡ []
  pub overlong : is_overlong ahead ≡ false

-- the next line is within the limits, and was given, or there is none
pub record IsAdvance (more : Bool) (line : Option (List ℕ)) (old new : Ahead) : Type 0 where
  pub within : is_next_over old ≡ false
  pub gives : more ≡ true → GivesLine line old new
  pub end : more ≡ false → IsEnd old

-- the next line was given, or there is none, where the source tells its bytes
abbrev pub Advances : Bool → LinesView → LinesView → SourceState → SourceState → Type 0
Advances more old new source_old source_new =
    source_old.tells ≡ true → IsAdvance more new.line (ahead_of old source_old) (ahead_of new source_new)

-- the next line is over the limits, and so the feed is overlong
pub record IsOver (ahead : Ahead) : Type 0 where
  pub next : is_next_over ahead ≡ true
  pub overlong : is_overlong ahead ≡ true

-- the next line is over the limits, where the source tells its bytes
abbrev pub Overruns : LinesView → SourceState → Type 0
Overruns lines source = source.tells ≡ true → IsOver (ahead_of lines source)

-- how many lines were given then: one more where one was given now
abbrev pub count_after : Bool → ℕ → ℕ
count_after more count = if more then count + 1 else count
