-- The lines of a feed that was read whole.
use Rattle.std.specs.Prelude.{◌≡◌, ◌≤◌, false, List, All, length, map}
use Rattle.std.specs.List.{range_with_len}
use Rattle.plan_changes.specs.declared.line.Post.{Post}
use Rattle.feed_lines.specs.Limits.{most_lines}
use Rattle.change_feed.specs.Feeds.{is_stop}

-- these are the lines of a feed: numbered from 1 in order, at most 4,096, and none that only says that the feed ended
pub record AreLines (posts : List Post) : Type 0 where
  pub numbers : map (λ post. post.line) posts ≡ range_with_len 1 (length posts)
  pub few : length posts ≤ most_lines
  pub lines : All (λ post. is_stop post.body ≡ false) posts
