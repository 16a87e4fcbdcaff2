use Rattle.std.proofs.Common.{arith}
use Rattle.tuple_store.proofs.LogLaws.{log_last, log_pop}
use Rattle.tuple_store.proofs.log.Log.pop.Goals as goal

pub clear_bit-requires : goal.clear_bit-requires
clear_bit-requires c = log_last _ _ _ _ _ _ _ c.self.invariant c.in_ok-n.ensures.items

pub invariant_of-self-2 : goal.invariant_of-self-2
invariant_of-self-2 c =
    let s = c.clear_bit.ensures in
    let p = c.in_ok-n.ensures in
    rw c.pop.ensures.capacity (log_pop _ _ _ _ _ _ _ _ c.self.invariant p.items p.cases _ s.here s.others s.length)
