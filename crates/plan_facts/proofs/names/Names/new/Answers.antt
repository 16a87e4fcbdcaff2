use Rattle.std.proofs.Common.{arith}
use Rattle.plan_facts.proofs.NamesLaws.{numbered}
use Rattle.plan_facts.proofs.names.Names.new.Goals as goal

pub invariant_of-result : goal.invariant_of-result
invariant_of-result c = numbered c.new.result.keys (omega arith) c.new.ensures.unique
