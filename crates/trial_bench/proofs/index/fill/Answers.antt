use Rattle.trial_bench.proofs.FreeLaws.{free_put}
use Rattle.std.proofs.Common.{◌∙◌}
use Rattle.trial_bench.proofs.index.fill.Goals as goal

pub loop-place-preserved : goal.loop-place-preserved
loop-place-preserved c = record {
  free = free_put _ _ c.loop-place.place _ c.in_ok-put.ensures.ok c.loop-place.invariant.free;
  is_open = c.put.ensures.is_open ∙ c.loop-place.invariant.is_open;
}
