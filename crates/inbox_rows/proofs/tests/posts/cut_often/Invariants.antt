use Rattle.std.proofs.Common.{◌≡◌, ◌+◌, length}
use Rattle.change_inbox.specs.Entries.{shuts_in}
use Rattle.change_inbox.specs.Seats.{own_of}
use Rattle.live_posts.specs.Cuts.{taken_by}
use Rattle.inbox_rows.proofs.tests.posts.cut_often.Given as goal

-- a cut was made for each boundary, and nothing else
abbrev pub invariant-loop-boundary : goal.invariant-loop-boundary
invariant-loop-boundary g l = record {
  inbox : l.cutter.inbox ≡ l.inbox;
  number : l.cutter.number ≡ l.fn.cutter.number;
  cuts : length (taken_by l.cutter) ≡ length (taken_by l.fn.cutter) + l.boundary;
  shuts : shuts_in (own_of l.cutter) ≡ shuts_in (own_of l.fn.cutter);
}
