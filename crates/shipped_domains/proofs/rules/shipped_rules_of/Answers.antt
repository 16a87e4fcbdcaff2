use Rattle.std.proofs.Common.{◌∙◌, refl}
use Rattle.shipped_domains.proofs.rules.shipped_rules_of.Goals as goal

pub returns-in-Ok-clause-caps : goal.returns-in-Ok-clause-caps
returns-in-Ok-clause-caps g c = c.in-Ok.rules.caps_are ∙ rw (c.in-Ok.ensures.weighs, c.in_ok-weighs.ensures.caps, c.in-Ok.ensures.defs) refl
