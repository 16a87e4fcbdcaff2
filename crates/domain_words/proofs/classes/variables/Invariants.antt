use Rattle.std.proofs.Common.{◌≡◌, map, take}
use Rattle.domain_words.specs.Classes.{lent_variable}
use Rattle.domain_words.proofs.classes.variables.Given as goal

abbrev pub invariant-loop-var : goal.invariant-loop-var
invariant-loop-var l = l.vars ≡ map lent_variable (take l.var-index l.lent)
