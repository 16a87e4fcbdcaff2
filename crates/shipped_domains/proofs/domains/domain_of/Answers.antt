use Rattle.std.proofs.Common.{refl}
use Rattle.shipped_domains.proofs.domains.domain_of.Goals as goal

pub returns-clause-view : goal.returns-clause-view
returns-clause-view g c =
    rw (c.new.ensures.name, c.in_ok-name.ensures.name, c.new.ensures.schema, c.new.ensures.rules, c.in_ok-rules.ensures.caps, c.in_ok-rules.ensures.defs, c.in_ok-rules.ensures.harder)
    refl

pub returns-clause-keeps : goal.returns-clause-keeps
returns-clause-keeps g c = rw c.new.ensures.rules c.in_ok-rules.ensures.keeps
