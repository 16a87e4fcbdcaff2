use Rattle.plan_rules.proofs.Accepted.{few_rules}
use Rattle.plan_rules.proofs.rules.Rules.range_fault.Goals as goal

pub first_range_fault-requires-clause-few : goal.first_range_fault-requires-clause-few
first_range_fault-requires-clause-few g c = rw c.as_slice.ensures (few_rules _ _ _ _ c.args.self.now.accepted)
