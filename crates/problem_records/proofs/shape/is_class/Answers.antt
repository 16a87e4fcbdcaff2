use Rattle.std.proofs.Common.{arith, sym}
use Rattle.std.proofs.lemmas.Grind.{common_steps}
use Rattle.plan_facts.proofs.Lists.{drop-member}
use Rattle.problem_records.proofs.shape.is_class.Goals as goal

pub returns-then-eq : goal.returns-then-eq
returns-then-eq c = grind (arith, common_steps, drop-member c.args.schema.now c.loop-n.n c.in-Some.class.now (sym c.in-Some.ensures.class))

pub loop-n-preserved : goal.loop-n-preserved
loop-n-preserved c = grind (arith, common_steps, drop-member c.args.schema.now c.loop-n.n c.in-Some.class.now (sym c.in-Some.ensures.class))
