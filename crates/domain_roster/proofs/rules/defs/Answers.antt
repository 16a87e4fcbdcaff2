use Rattle.domain_roster.proofs.Accepted.{rules_accepted}
use Rattle.domain_roster.proofs.rules.defs.Goals as goal

pub returns-clause-accepted : goal.returns-clause-accepted
returns-clause-accepted c = rw c.in_ok-defs.ensures rules_accepted
