use Rattle.std.proofs.Common.{◌∙◌, codes, refl}
use Rattle.domain_roster.specs.Names.{roster_numbers}
use Rattle.shipped_domains.proofs.Parts.{shipped_same, open_roster_parts}
use Rattle.shipped_domains.proofs.domains.open_roster_parts.Goals as goal

pub returns-clause-view : goal.returns-clause-view
returns-clause-view c =
    shipped_same {numbers = roster_numbers} (codes "open_roster") c.in_ok-schema.ensures c.in_ok-defs.ensures.value refl c.in_ok-harder.ensures
    ∙ open_roster_parts

pub returns-clause-accepted : goal.returns-clause-accepted
returns-clause-accepted c = rw (c.in_ok-schema.ensures, c.in_ok-harder.ensures) c.in_ok-defs.ensures.accepted
