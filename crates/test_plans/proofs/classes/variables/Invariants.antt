use Rattle.std.proofs.Common.{◌≡◌, map, take}
use Rattle.test_plans.specs.Classes.{variable_of}
use Rattle.test_plans.proofs.classes.variables.Given as goal

-- the variables, so far
abbrev pub invariant-loop-sketch : goal.invariant-loop-sketch
invariant-loop-sketch l = l.vars ≡ map variable_of (take l.sketch-index l.sketches)
