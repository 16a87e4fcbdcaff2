use Rattle.std.proofs.Common.{◌≡◌, ◌∙◌, Some, rules, ap, subst}
use Rattle.std.specs.List.{position}
use Rattle.feed_lines.specs.Parts.{is_feed, after_line, line_end}
use Rattle.feed_lines.specs.Windows.{Ends}
use Rattle.feed_lines.proofs.Filling.{found_here, found_far}
use Rattle.feed_lines.proofs.window.Window.find.Goals as goal

pub returns-in-Feed-clause-finds : goal.returns-in-Feed-clause-finds
returns-in-Feed-clause-finds g c = λ tells.
    let left = (g.R.Source.state c.seek.new.src).left in
    let at : position is_feed c.seek.new.self ≡ Some c.in-Feed.n = search rules in
    let parts = found_here c.seek.new.self left _ c.in-Feed.n (c.in_ok-end.ensures.ahead tells) at in
    record { taken = parts.0; line = parts.1; after = parts.2 }

pub returns-in_ok-taken-in-Far-clause-finds : goal.returns-in_ok-taken-in-Far-clause-finds
returns-in_ok-taken-in-Far-clause-finds g c = λ tells.
    let source = g.R.Source.state c.seek.new.src in
    let far = subst (λ end. Ends end c.seek.new.self source) c.in-Far.is c.in_ok-end.ensures.end in
    let ahead = c.in_ok-end.ensures.ahead tells in
    let passed = c.in_ok-taken-in-Far.ensures.skips (c.in_ok-end.ensures.later.same_tells ∙ tells) in
    record {
      taken = passed.taken ∙ ap line_end ahead;
      line = found_far c.seek.new.self source.left _ ahead far.1 far.0;
      after = passed.after ∙ ap after_line ahead;
    }
