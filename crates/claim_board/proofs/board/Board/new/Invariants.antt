use Rattle.std.proofs.Common.{◌≡◌, ◌+◌, [], replicate}
use Rattle.claim_board.specs.Boards.{fresh_pass}
use Rattle.claim_board.proofs.board.Board.new.Given as goal

abbrev pub invariant-loop : goal.invariant-loop
invariant-loop l = record {
  table : l.dealer.table_id ≡ l.table.shared.table_id;
  size : l.table.shared.key ≡ record { limit = l.n; seats = l.seats };
  known : l.dealer.me.0.size ≡ record { limit = l.n; seats = l.seats };
  slots : l.dealer.me.1 ≡ [];
  parts : l.dealer.me.0.parts + l.counter ≡ l.seats;
  ends : l.dealer.me.0.ends ≡ 0;
  draws : l.dealer.me.0.draws ≡ [];
  passes : l.passes ≡ replicate l.counter (fresh_pass (record { table = l.table.shared.table_id; limit = l.n; seats = l.seats }));
}
