use Rattle.std.proofs.Common.{◌≡◌, ℕ, ◌+◌, ◌<◌, length, All}
use Rattle.claim_board.specs.Boards.{all_draws, times}
use Rattle.claim_board.proofs.Gathers.{ends_of}
use Rattle.claim_board.proofs.board.Board.close.Given as goal

abbrev pub invariant-loop-pass : goal.invariant-loop-pass
invariant-loop-pass l = record {
  table : l.seat.table_id ≡ l.table.shared.table_id;
  same : l.table ≡ l.initial.table;
  some : 0 < l.seat.me.0.parts;
  parts : l.seat.me.0.parts + length l.passes ≡ l.fn.self.seats;
  draws : (x : ℕ) → times x l.seat.me.0.draws + times x (all_draws l.passes) ≡ times x (all_draws l.fn.passes);
  ends : l.seat.me.0.ends + ends_of l.passes ≡ ends_of l.fn.passes;
  passes : All (λ p. p.board ≡ l.fn.self) l.passes;
}

abbrev pub decreases-loop-pass : goal.decreases-loop-pass
decreases-loop-pass l = length l.passes
