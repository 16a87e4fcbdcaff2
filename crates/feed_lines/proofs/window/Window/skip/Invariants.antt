use Rattle.std.proofs.Common.{◌≡◌, ◌+◌, ◌-◌, ◌<◌, true, length}
use Rattle.plan_ports.specs.Outside.{LaterSource}
use Rattle.feed_lines.specs.Parts.{after_line, line_end}
use Rattle.feed_lines.specs.Windows.{bytes_ahead}
use Rattle.feed_lines.proofs.window.Window.skip.Given as goal

-- what was passed is the front of the first line
abbrev pub invariant-skip : goal.invariant-skip
invariant-skip g l =
    let source = g.R.Source.state l.fn.src in
    let before = bytes_ahead l.fn.self source in
    let now = bytes_ahead l.self (g.R.Source.state l.src) in
    record {
      some : 0 < length l.self;
      end : source.tells ≡ true → line_end before ≡ l.gone + line_end now;
      after : source.tells ≡ true → after_line before ≡ after_line now;
      later : LaterSource source (g.R.Source.state l.src);
    }

abbrev pub decreases-skip : goal.decreases-skip
decreases-skip g l = l.room + 1 - l.gone
