use Rattle.std.proofs.Common.{arith}
use Rattle.plan_recalc.proofs.Listed.{facts_listed, sizes_listed}
use Rattle.plan_recalc.proofs.facts.Facts.of.Goals as goal

pub returns-clause-records : goal.returns-clause-records
returns-clause-records c = facts_listed c.args.plan.now c.loop-class.classes (omega arith) c.loop-class.invariant.each

pub returns-clause-sizes : goal.returns-clause-sizes
returns-clause-sizes c = sizes_listed c.args.plan.now c.loop-class.classes (omega arith) c.loop-class.invariant.each
