use Rattle.tuple_store.proofs.MapLaws.{gone_there, put_there}
use Rattle.trial_bench.proofs.index.try_out.Goals as goal

pub kill-requires-clause-there : goal.kill-requires-clause-there
kill-requires-clause-there c = put_there _ _ c.args.size _ c.in_ok-put.ensures.ok

pub put-requires-in-loop-round-clause-free : goal.put-requires-in-loop-round-clause-free
put-requires-in-loop-round-clause-free c = gone_there _ _ c.args.size c.kill.ensures.now
