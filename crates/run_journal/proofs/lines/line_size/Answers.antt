use Rattle.std.proofs.Common.{sym}
use Rattle.feed_lines.specs.Parts.{is_feed}
use Rattle.feed_lines.proofs.Firsts.{place_of_some, place_of_none}
use Rattle.run_journal.proofs.lines.line_size.Goals as goal

pub returns-in-Some : goal.returns-in-Some
returns-in-Some c = sym (place_of_some is_feed c.args.bytes.now c.in-Some.n (sym c.in-Some.ensures)).0

pub returns-in-None : goal.returns-in-None
returns-in-None c = sym (place_of_none is_feed c.args.bytes.now (sym c.in-None.ensures))
