use Rattle.trial_bench.proofs.FreeLaws.{free_again}
use Rattle.tuple_store.proofs.MapLaws.{put_there}
use Rattle.std.proofs.Common.{◌∙◌}
use Rattle.trial_bench.proofs.index.renew.Goals as goal

pub kill-requires-clause-there : goal.kill-requires-clause-there
kill-requires-clause-there c = put_there _ _ c.args.size _ c.in_ok-put.ensures.ok

pub loop-round-preserved : goal.loop-round-preserved
loop-round-preserved c = record {
  free = free_again _ _ _ c.args.size _ c.in_ok-put.ensures.ok c.kill.ensures.now c.loop-round.invariant.free;
  is_open = c.kill.ensures.is_open ∙ c.put.ensures.is_open ∙ c.loop-round.invariant.is_open;
}
