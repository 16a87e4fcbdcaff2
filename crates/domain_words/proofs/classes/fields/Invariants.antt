use Rattle.std.proofs.Common.{◌≡◌, map, take}
use Rattle.domain_words.specs.Classes.{lent_field}
use Rattle.domain_words.proofs.classes.fields.Given as goal

abbrev pub invariant-loop-name : goal.invariant-loop-name
invariant-loop-name l = l.fields ≡ map lent_field (take l.name-index l.lent)
