use Rattle.std.proofs.Common.{arith}
use Rattle.std.proofs.lemmas.Grind.{common_steps}
use Rattle.std.proofs.Math.Seq.{take-add}
use Rattle.plan_ports.proofs.stream.put_all.Goals as goal

pub put-preserved : goal.put-preserved
put-preserved g c = grind (arith, common_steps, take-add c.put.done c.in_ok-n.n c.args.text.now)
