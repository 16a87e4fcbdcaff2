use Rattle.std.proofs.Common.{◌≤◌, length, arith}
use Rattle.tuple_store.proofs.LogLaws.{length-log}
use Rattle.tuple_store.proofs.log.Log.make_room.Goals as goal

pub overflow_sub-missing : goal.overflow_sub-missing
overflow_sub-missing c = let le : length c.self.inside.numbers.items ≤ c.self.inside.room = length-log _ _ _ _ _ c.self.invariant in omega (arith, c.self.invariant.counted)
