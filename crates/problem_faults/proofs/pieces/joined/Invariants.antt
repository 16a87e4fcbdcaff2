use Rattle.std.proofs.Common.{◌≡◌, take}
use Rattle.problem_faults.specs.Pieces.{joined}
use Rattle.problem_faults.proofs.pieces.joined.Given as goal

-- the pieces so far are joined
abbrev pub invariant-loop-piece : goal.invariant-loop-piece
invariant-loop-piece l = l.bytes.items ≡ joined (take l.piece-index l.pieces)
