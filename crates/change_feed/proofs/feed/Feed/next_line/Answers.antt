use Rattle.std.proofs.Common.{◌≡◌, ◌∙◌, ◌+◌, ap}
use Rattle.feed_lines.specs.Reading.{count_after}
use Rattle.change_feed.specs.Feeds.{FeedView, is_stop}
use Rattle.change_feed.proofs.Stops.{no_stop}
use Rattle.change_feed.proofs.feed.Feed.next_line.Goals as goal

pub returns-clause-line : goal.returns-clause-line
returns-clause-line g c =
    let before = ap (λ (v : FeedView). v.lines.count + 1) c.self.view_is in
    let one : c.advance.new.self.count ≡ c.self.inside.lines.count + 1 =
    c.in_ok-advance.ensures.count ∙ ap (λ b. count_after b c.self.inside.lines.count) c.if-not-branch.false in
    record {
      line = c.count.ensures.count ∙ one ∙ before;
      count = one ∙ before;
      change = ap is_stop c.in-Ok.ensures ∙ no_stop c.advance.new.self.line;
    }
