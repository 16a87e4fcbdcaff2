-- A feed that is read post by post.
use Rattle.std.specs.Prelude.{◌≡◌, ℕ, ◌+◌, ◌-◌, Bool, true, false, List, [], ◌∷◌, Option, Some, None, map, take}
use Rattle.plan_ports.specs.Outside.{SourceState}
use Rattle.plan_changes.specs.declared.line.Body.{Body}
use Rattle.plan_changes.specs.declared.line.Body.TheVariants.{Do, Bad, Stop}
use Rattle.plan_changes.specs.declared.line.Post.{Post}
use Rattle.feed_lines.specs.Given.{given_line}
use Rattle.feed_lines.specs.Limits.{most_lines}
use Rattle.feed_lines.specs.Parts.{lines_in}
use Rattle.feed_lines.specs.Reading.{LinesView, fresh_lines, Ahead, whole_feed, ahead_of, is_next_over, is_overlong, IsOver}
use Rattle.change_feed.specs.Bodies.{line_body}

-- what a feed holds: its reader of lines, and whether it has ended
pub record FeedView : Type 0 where
  pub lines : LinesView
  pub ended : Bool

-- a feed of which nothing was read
abbrev pub fresh_feed : FeedView
fresh_feed = record { lines = fresh_lines; ended = false }

-- what is ahead of a feed
abbrev pub feed_ahead : FeedView → SourceState → Ahead
feed_ahead feed source = ahead_of feed.lines source

-- the lines ahead, up to the most of a feed, each a change or a fault of the line
abbrev pub bodies_ahead : Ahead → List Body
bodies_ahead ahead =
    map (λ line. line_body (given_line line)) (take (most_lines - ahead.count) (lines_in ahead.bytes))

-- the lines of a feed's bytes: the first 4,096 of them
abbrev pub lines_of : List ℕ → List Body
lines_of bytes = bodies_ahead (whole_feed bytes)

-- a feed has a 4,097th line, or a byte past the first 2^30
abbrev pub overlong : List ℕ → Bool
overlong bytes = is_overlong (whole_feed bytes)

-- the next line ahead was given
pub record IsNext (body : Body) (old new : Ahead) : Type 0 where
  pub first : bodies_ahead old ≡ body ∷ bodies_ahead new
  pub overlong : is_overlong new ≡ is_overlong old

-- nothing is ahead
pub record HasEnded (ahead : Ahead) : Type 0 where
  pub bytes : ahead.bytes ≡ []
  pub lines : bodies_ahead ahead ≡ []
  pub overlong : is_overlong ahead ≡ false

-- the next line ahead was given, or nothing is ahead
abbrev pub Gives : Option Post → Ahead → Ahead → Type 0
Gives None old new = HasEnded old
Gives (Some post) old new = IsNext post.body old new

-- the next line is within the limits, and was given, or nothing is ahead, where the source tells its bytes
abbrev pub Posts : Option Post → FeedView → FeedView → SourceState → SourceState → Type 0
Posts post old new source_old source_new =
    source_old.tells ≡ true
    → (is_next_over (feed_ahead old source_old) ≡ false)
    × Gives post (feed_ahead old source_old) (feed_ahead new source_new)

-- the feed is over its limits at the next line, where the source tells its bytes
abbrev pub Overruns : FeedView → SourceState → Type 0
Overruns feed source = source.tells ≡ true → IsOver (feed_ahead feed source)

-- the post says that a feed ended early
abbrev pub is_stop : Body → Bool
is_stop (Do change) = false
is_stop (Bad fault) = false
is_stop (Stop cause) = true

-- a line's post: it has the number of the next line, counted from 1, and is no stop
pub record IsLine (post : Post) (old new : FeedView) : Type 0 where
  pub line : post.line ≡ old.lines.count + 1
  pub count : new.lines.count ≡ old.lines.count + 1
  pub change : is_stop post.body ≡ false
