use Rattle.std.proofs.Common.{◌≡◌, ◌≤◌, length, take}
use Rattle.std.specs.List.{flat_map}
use Rattle.stream_heads.specs.Meant.{parts_at}
use Rattle.stream_heads.proofs.heads.Heads.row_by_parts.Given as goal

-- the parts of the cells so far
abbrev pub invariant-loop-cell : goal.invariant-loop-cell
invariant-loop-cell l = record {
  row : l.row ≡ flat_map (parts_at l.self.now) (take l.cell-index l.cell-items);
  few : length l.row ≤ l.cell-index;
}
