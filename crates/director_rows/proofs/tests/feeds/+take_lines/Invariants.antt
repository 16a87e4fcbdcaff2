use Rattle.std.proofs.Common.{length}
use Rattle.director_rows.proofs.tests.feeds.+take_lines.Given as goal

abbrev pub decreases-take_lines : goal.decreases-take_lines
decreases-take_lines g l = length l.posts.now
