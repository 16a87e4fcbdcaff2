use Rattle.std.proofs.Common.{rules, arith}
use Rattle.claim_board.proofs.Keeps.{splits}
use Rattle.claim_board.proofs.board.Board.new.Goals as goal

pub split_seat-seat-requires : goal.split_seat-seat-requires
split_seat-seat-requires c = (search rules, search rules, splits _ _ _ (omega arith) c.loop.invariant.ends c.loop.invariant.draws)
