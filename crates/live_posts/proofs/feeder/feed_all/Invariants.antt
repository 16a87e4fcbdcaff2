use Rattle.std.proofs.Common.{◌≡◌, ◌≤◌, ◌-◌, ◌++◌, true, false, length, map}
use Rattle.std.specs.Prelude.{All}
use Rattle.std.specs.List.{range_with_len}
use mathlib.Core.List.{IsPrefix}
use Rattle.plan_ports.specs.Outside.{LaterSource}
use Rattle.feed_lines.specs.Limits.{most_lines}
use Rattle.feed_lines.specs.Reading.{is_overlong}
use Rattle.change_inbox.specs.Seats.{own_of}
use Rattle.change_feed.specs.Feeds.{bodies_ahead, feed_ahead, is_stop, lines_of, overlong}
use Rattle.live_posts.specs.Feeding.{entries_of, posts_of}
use Rattle.live_posts.proofs.feeder.feed_all.Given as goal

-- the lines so far were posted, and the feed goes on with the others
abbrev pub invariant-posts : goal.invariant-posts
invariant-posts g l =
    let before = g.R.Source.state l.fn.src in
    let now = g.R.Source.state l.src in
    let posts = posts_of l.seat in
    record {
      inbox : l.seat.inbox ≡ l.inbox;
      number : l.seat.number ≡ l.fn.seat.number;
      seen : IsPrefix l.fn.seat.seen l.seat.seen;
      own : own_of l.seat ≡ entries_of l.seat.number 0 posts;
      goes_on : l.feed.ended ≡ false;
      count : l.feed.lines.count ≡ length posts;
      posted : l.lines ≡ length posts;
      numbers : map (λ post. post.line) posts ≡ range_with_len 1 (length posts);
      few : length posts ≤ most_lines;
      lines : All (λ post. is_stop post.body ≡ false) posts;
      later : LaterSource before now;
      bodies : before.tells ≡ true → map (λ post. post.body) posts ++ bodies_ahead (feed_ahead l.feed now) ≡ lines_of before.left;
      within : before.tells ≡ true → is_overlong (feed_ahead l.feed now) ≡ overlong before.left;
    }

abbrev pub decreases-posts : goal.decreases-posts
decreases-posts g l = most_lines - length (posts_of l.seat)
