use Rattle.std.proofs.Common.{◌≡◌, ◌-◌, ◌++◌, true, false, length, map}
use Rattle.plan_ports.specs.Outside.{LaterSource}
use Rattle.feed_lines.specs.Limits.{most_lines}
use Rattle.feed_lines.specs.Reading.{is_overlong}
use Rattle.change_feed.specs.Feeds.{bodies_ahead, feed_ahead, lines_of, overlong}
use Rattle.live_lines.specs.Reading.{AreLines}
use Rattle.live_lines.proofs.feed.read_feed.Given as goal

-- the lines so far were read, and the feed goes on with the others
abbrev pub invariant-lines : goal.invariant-lines
invariant-lines g l =
    let before = g.R.Source.state l.fn.src in
    let now = g.R.Source.state l.src in
    record {
      goes_on : l.feed.ended ≡ false;
      count : l.feed.lines.count ≡ length l.posts.items;
      lines : AreLines l.posts.items;
      later : LaterSource before now;
      bodies : before.tells ≡ true → map (λ post. post.body) l.posts.items ++ bodies_ahead (feed_ahead l.feed now) ≡ lines_of before.left;
      within : before.tells ≡ true → is_overlong (feed_ahead l.feed now) ≡ overlong before.left;
    }

abbrev pub decreases-lines : goal.decreases-lines
decreases-lines g l = most_lines - length l.posts.items
