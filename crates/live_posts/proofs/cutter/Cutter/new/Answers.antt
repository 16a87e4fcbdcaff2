use Rattle.live_posts.proofs.Cutting.{fresh_cutter}
use Rattle.live_posts.proofs.cutter.Cutter.new.Goals as goal

pub invariant_of-result : goal.invariant_of-result
invariant_of-result g c = fresh_cutter c.args.seat c.requires
