use Rattle.std.proofs.Common.{◌≡◌, map, take}
use Rattle.test_plans.specs.Classes.{class_of}
use Rattle.test_plans.proofs.classes.all_classes.Given as goal

-- the classes, so far
abbrev pub invariant-loop-sketch : goal.invariant-loop-sketch
invariant-loop-sketch l = l.classes ≡ map class_of (take l.sketch-index l.sketches)
