use Rattle.std.proofs.Common.{◌≡◌, map, take}
use Rattle.test_plans.specs.Facts.{raw_of}
use Rattle.test_plans.proofs.facts.raws.Given as goal

-- the records, so far
abbrev pub invariant-loop-sketch : goal.invariant-loop-sketch
invariant-loop-sketch l = l.raws ≡ map raw_of (take l.sketch-index l.sketches)
