use Rattle.domain_roster.proofs.Accepted.{open_accepted}
use Rattle.domain_roster.proofs.rules.open_defs.Goals as goal

pub returns-clause-accepted : goal.returns-clause-accepted
returns-clause-accepted c = rw c.in_ok-defs.ensures open_accepted
