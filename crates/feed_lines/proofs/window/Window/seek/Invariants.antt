use Rattle.std.proofs.Common.{◌≡◌, ◌≤◌, ◌-◌, None, take, length}
use Rattle.std.specs.List.{position}
use Rattle.plan_ports.specs.Outside.{LaterSource}
use Rattle.feed_lines.specs.Parts.{is_feed}
use Rattle.feed_lines.specs.Windows.{KeepsAhead}
use Rattle.feed_lines.proofs.window.Window.seek.Given as goal

-- no line feed stands in what was seen
abbrev pub invariant-seek : goal.invariant-seek
invariant-seek g l = record {
  seen : l.seen ≤ length l.self;
  none : position is_feed (take l.seen l.self) ≡ None;
  ahead : KeepsAhead l.fn.self l.self (g.R.Source.state l.fn.src) (g.R.Source.state l.src);
  later : LaterSource (g.R.Source.state l.fn.src) (g.R.Source.state l.src);
}

abbrev pub decreases-seek : goal.decreases-seek
decreases-seek g l = 65537 - length l.self
