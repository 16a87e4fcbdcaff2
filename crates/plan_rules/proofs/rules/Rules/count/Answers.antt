use Rattle.std.proofs.Common.{rules, ◌≤◌}
use Rattle.plan_rules.proofs.Accepted.{few_rules}
use Rattle.plan_rules.proofs.rules.Rules.count.Goals as goal

pub returns-clause-few : goal.returns-clause-few
returns-clause-few g c = rw c.len.ensures (few_rules _ _ _ _ c.args.self.now.accepted)

pub overflow_cast-result : goal.overflow_cast-result
overflow_cast-result g c = let few : c.len.result ≤ 32 = rw c.len.ensures (few_rules _ _ _ _ c.args.self.now.accepted) in search rules
