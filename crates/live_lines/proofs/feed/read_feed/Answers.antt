use Rattle.std.proofs.Common.{◌≡◌, ◌∙◌, ◌≤◌, ◌+◌, ◌++◌, ◌∷◌, [], List, Option, Some, length, map, is_none, sym, ap, subst, arith}
use Rattle.std.specs.Prelude.{IfSome}
use Rattle.std.proofs.lemmas.List.{length_push}
use Rattle.plan_changes.specs.declared.line.Post.{Post}
use Rattle.feed_lines.specs.Limits.{most_lines}
use Rattle.feed_lines.specs.Reading.{is_overlong}
use Rattle.change_feed.specs.Feeds.{FeedView, IsLine, Posts, bodies_ahead, feed_ahead}
use Rattle.live_lines.specs.Reading.{AreLines}
use Rattle.live_lines.proofs.LinesRead.{bodies_more, later_both, later_same, lines_more, no_lines}
use Rattle.live_lines.proofs.feed.read_feed.Goals as goal

pub lines-init : goal.lines-init
lines-init g c =
    let source = g.R.Source.state c.args.src.now in
    let fresh = c.new-feed.ensures in
    let none = c.new-posts.ensures.items in
    record {
      goes_on = ap (λ (f : FeedView). f.ended) fresh;
      count = ap (λ (f : FeedView). f.lines.count) fresh ∙ sym (ap (λ (ps : List Post). length ps) none);
      lines = subst AreLines (sym none) no_lines;
      later = later_same source;
      bodies = λ told. λ i. map (λ (p : Post). p.body) (none i) ++ bodies_ahead (feed_ahead (fresh i) source);
      within = λ told. ap (λ (f : FeedView). is_overlong (feed_ahead f source)) fresh;
    }

pub lines-preserved : goal.lines-preserved
lines-preserved g c =
    let old = c.lines.feed in
    let new = c.next_line.new.self in
    let source = g.R.Source.state c.lines.src in
    let after = g.R.Source.state c.next_line.new.src in
    let posts = c.lines.posts.items in
    let post = c.in-Some.post in
    let is : c.in_ok-post.field-0 ≡ Some post = c.in-Some.is in
    let before = c.lines.invariant in
    let line = subst (λ (o : Option Post). IfSome o (λ p. IsLine p old new)) is c.in_ok-post.ensures.line in
    let few = subst (λ (o : Option Post). IfSome o (λ p. p.line ≤ most_lines)) is c.in_ok-post.ensures.few in
    let next = subst (λ (o : Option Post). Posts o old new source after) is c.in_ok-post.ensures.next in
    let more = c.in_ok-keep.ensures.ok in
    let long = length_push posts post in
    let count : new.lines.count ≡ length (posts ++ post ∷ []) = omega (arith, line.count, before.count, long) in
    let number : post.line ≡ length posts + 1 = omega (arith, line.line, before.count) in
    record {
      goes_on = c.in_ok-post.ensures.ended ∙ ap (λ (o : Option Post). is_none o) is;
      count = count ∙ sym (ap (λ (ps : List Post). length ps) more);
      lines = subst AreLines (sym more) (lines_more posts post before.lines number few line.change);
      later = later_both _ source after before.later c.next_line.ensures.later;
      bodies = λ told.
          ap (λ (ps : List Post). map (λ (p : Post). p.body) ps ++ bodies_ahead (feed_ahead new after)) more
          ∙ bodies_more posts post (bodies_ahead (feed_ahead old source)) (bodies_ahead (feed_ahead new after)) (next (before.later.same_tells ∙ told)).1.first
          ∙ before.bodies told;
      within = λ told. (next (before.later.same_tells ∙ told)).1.overlong ∙ before.within told;
    }
