use Rattle.std.proofs.Common.{arith}
use Rattle.plan_rules.specs.Named.{weigher_named}
use Rattle.plan_recalc.proofs.impact.match_weight.Goals as goal

pub match_weight_of-requires-clause-there : goal.match_weight_of-requires-clause-there
match_weight_of-requires-clause-there g c κs within =
    let there = rw c.in-Some.is at c.requires.weigher in there 0 (weigher_named c.in-Some.number) (omega arith)
