use Rattle.std.proofs.Common.{◌≡◌, false, take}
use Rattle.stream_heads.specs.Exact.{is_among}
use Rattle.stream_heads.proofs.cells.Cells.is_among.Given as goal

-- the row is none of those so far
abbrev pub invariant-loop-row : goal.invariant-loop-row
invariant-loop-row l = is_among (take l.row-index l.rows) l.self ≡ false
