-- Laws of runs that were closed.
use Rattle.std.specs.Prelude.{◌≡◌, ◌≢◌, ◌≤◌, ◌++◌, List, length}
use mathlib.Core.List.{IsPrefix}
use Rattle.plan_changes.specs.declared.line.Post.{Post}
use Rattle.feed_lines.specs.Limits.{most_lines}
use Rattle.change_inbox.specs.declared.entry.Entry.{Entry}
use Rattle.change_inbox.specs.Entries.{posts_in, shuts_in}
use Rattle.change_inbox.specs.Seats.{SeatView}
use Rattle.live_posts.specs.declared.fed.Fed.{Fed}
use Rattle.live_posts.specs.declared.fed.Fed.TheVariants.{Shut, Full}
use Rattle.live_posts.specs.Feeding.{Shows, lines_among, posts_of, stops_behind}

-- a feeder that ended so, by what its seat has seen, and the journal of its run, which has its posts and no others
pub record IsClosed (fed : Fed) (seat : SeatView Post) (journal : List (Entry Post)) : Type 0 where
  pub shows : Shows fed seat
  pub few : length (lines_among (posts_of seat)) ≤ most_lines
  pub stop : posts_of seat ≡ lines_among (posts_of seat) ++ stops_behind (length (lines_among (posts_of seat))) fed
  pub seen : IsPrefix seat.seen journal
  pub posts : posts_in journal ≡ posts_of seat

-- where there is room for 4,097 posts, a feeder finds room for each
abbrev pub FindsRoom : Type 0
FindsRoom = (fed : Fed) (feeder : SeatView Post) (journal : List (Entry Post))
    → IsClosed fed feeder journal
    → feeder.inbox.limits.posts ≡ 4097
    → fed ≢ Full

-- where nobody shut the journal, no feeder ended for that
abbrev pub GoesOnUnshut : Type 0
GoesOnUnshut = (fed : Fed) (feeder : SeatView Post) (journal : List (Entry Post))
    → IsClosed fed feeder journal
    → shuts_in journal ≡ 0
    → fed ≢ Shut
