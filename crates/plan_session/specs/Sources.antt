-- What stands under the names of a feed and of a journal.
use Rattle.std.specs.Prelude.{◌≡◌, ◌^◌, ℕ, true, false, nat_lt, List, Some, Result, Err, length, map, zip, if◌then◌else◌}
use Rattle.std.specs.List.{range_with_len}
use Rattle.plan_ports.specs.Outside.{Holds, ShelfState}
use Rattle.plan_changes.specs.declared.line.Body.{Body}
use Rattle.plan_changes.specs.declared.line.Post.{Post}
use Rattle.change_feed.specs.Feeds.{lines_of, overlong}
use Rattle.live_lines.specs.Reading.{AreLines}
use Rattle.run_journal.specs.Bounds.{bounds_of}

-- what stands on a line, under the line's number
abbrev pub numbered : ℕ × Body → Post
numbered line = record { line = line.0; body = line.1 }

-- the lines of a feed's bytes, numbered from 1
abbrev pub posts_of : List ℕ → List Post
posts_of bytes = map numbered (zip (range_with_len 1 (length (lines_of bytes))) (lines_of bytes))

-- bytes of a feed that has these lines, and no more lines or bytes than a feed may have
pub record IsFeedOf (posts : List Post) (bytes : List ℕ) : Type 0 where
  pub lines : posts ≡ posts_of bytes
  pub within : overlong bytes ≡ false

-- the feed under the name has these lines, by its bytes where the shelf tells them
pub record HoldsFeed (shelf : ShelfState) (name : List ℕ) (posts : List Post) : Type 0 where
  pub lines : AreLines posts
  pub feed : shelf.tells ≡ true → (bytes : List ℕ) × (shelf.bytes_of name ≡ Some bytes) × IsFeedOf posts bytes

-- the feed under the name has too many lines or bytes, where the shelf tells them
abbrev pub HoldsOverlong : ShelfState → List ℕ → Type 0
HoldsOverlong shelf name =
    shelf.tells ≡ true → (bytes : List ℕ) × (shelf.bytes_of name ≡ Some bytes) × (overlong bytes ≡ true)

-- the most bytes of a journal
abbrev pub most_bytes : ℕ
most_bytes = 2 ^ 30

-- the boundary of each of so many lines that a journal's bytes name, up to the step limit, or the number of the line that it
-- is refused for: 0 where it has too many bytes
unfoldable pub journal_bounds : List ℕ → ℕ → ℕ → Result (List ℕ) ℕ
journal_bounds bytes count steps = if nat_lt most_bytes (length bytes) then Err 0 else bounds_of bytes count steps

-- the journal under the name says this of so many lines
pub record HoldsJournal (shelf : ShelfState) (name : List ℕ) (count steps : ℕ) (said : Result (List ℕ) ℕ) : Type 0 where
  pub bytes : List ℕ
  pub held : Holds shelf name bytes
  pub says : journal_bounds bytes count steps ≡ said
