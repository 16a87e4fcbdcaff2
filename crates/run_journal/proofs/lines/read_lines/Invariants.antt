use Rattle.std.proofs.Common.{◌≡◌, ◌+◌, ◌-◌, ◌≤◌, length, drop}
use Rattle.feed_lines.specs.Parts.{lines_in}
use Rattle.run_journal.specs.Bounds.{bounds_from}
use Rattle.run_journal.specs.Reading.{meant}
use Rattle.run_journal.proofs.lines.read_lines.Given as goal

-- what was read and the lines from here on mean what all lines mean
abbrev pub invariant-read : goal.invariant-read
invariant-read l = record {
  meant : meant l.steps l.reading (lines_in (drop l.at l.bytes)) ≡ bounds_from l.steps 0 0 0 (lines_in l.bytes);
  lines : l.reading.lines + length (lines_in (drop l.at l.bytes)) ≡ length (lines_in l.bytes);
  few : l.reading.lines ≤ l.at;
  bounds : length l.reading.bounds ≤ l.reading.lines;
  near : l.at ≤ length l.bytes + 1;
}

abbrev pub decreases-read : goal.decreases-read
decreases-read l = length l.bytes - l.at
