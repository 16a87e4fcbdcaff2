-- What the feeder of a run posts.
use Rattle.std.specs.Prelude.{◌≡◌, ℕ, ◌+◌, ◌<◌, Bool, not, true, false, List, [], ◌∷◌, filter, length, map}
use Rattle.plan_changes.specs.declared.line.Body.{Body}
use Rattle.plan_changes.specs.declared.line.Body.TheVariants.{Stop}
use Rattle.plan_changes.specs.declared.line.Post.{Post}
use Rattle.plan_changes.specs.declared.line.StopCause.{StopCause}
use Rattle.plan_changes.specs.declared.line.StopCause.TheVariants as cause
use Rattle.feed_lines.specs.declared.fault.FeedFault.{FeedFault}
use Rattle.feed_lines.specs.declared.fault.FeedFault.TheVariants.{Memory, ReadFault, Overrun}
use Rattle.change_inbox.specs.declared.entry.Entry.{Entry}
use Rattle.change_inbox.specs.Books.{post}
use Rattle.change_inbox.specs.Entries.{posts_in, shuts_in}
use Rattle.change_inbox.specs.Seats.{SeatView, own_of}
use Rattle.change_feed.specs.Feeds.{is_stop}
use Rattle.live_posts.specs.declared.fed.Fed.{Fed}
use Rattle.live_posts.specs.declared.fed.Fed.TheVariants.{Ended, Stopped, Shut, Full}

-- posts as the entries of a seat, numbered from this number on
abbrev pub entries_of : {T : Type 0} → ℕ → ℕ → List T → List (Entry T)
entries_of seat number [] = []
entries_of seat number (body ∷ bodies) = post seat number body ∷ entries_of seat (number + 1) bodies

-- the posts of a seat
abbrev pub posts_of : SeatView Post → List Post
posts_of seat = posts_in (own_of seat)

-- the lines among posts: all but the stops
abbrev pub lines_among : List Post → List Post
lines_among posts = filter (λ post. not (is_stop post.body)) posts

-- the bodies of the lines among posts
abbrev pub bodies_among : List Post → List Body
bodies_among posts = map (λ post. post.body) (lines_among posts)

-- a stop with its cause, as the post of this number
abbrev pub stop_at : ℕ → StopCause → Post
stop_at line cause = record { line = line; body = Stop cause }

-- what is posted behind so many lines: a stop where the feed failed
abbrev pub stops_behind : ℕ → Fed → List Post
stops_behind lines Ended = []
stops_behind lines (Stopped cause) = stop_at (lines + 1) cause ∷ []
stops_behind lines Shut = []
stops_behind lines Full = []

-- the cause of a fault
abbrev pub cause_of : FeedFault → StopCause
cause_of Memory = cause.Memory
cause_of ReadFault = cause.ReadFault
cause_of Overrun = cause.Overrun

-- the feeder ended at a post that was refused
abbrev pub is_refused : Fed → Bool
is_refused Ended = false
is_refused (Stopped cause) = false
is_refused Shut = true
is_refused Full = true

-- what a seat has seen bears out how its feeder ended: the journal was shut, or had all its posts
abbrev pub Shows : Fed → SeatView Post → Type 0
Shows Ended seat = Unit {0}
Shows (Stopped cause) seat = Unit {0}
Shows Shut seat = 0 < shuts_in seat.seen
Shows Full seat = length (posts_in seat.seen) ≡ seat.inbox.limits.posts
