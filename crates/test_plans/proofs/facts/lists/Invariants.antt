use Rattle.std.proofs.Common.{◌≡◌, take}
use Rattle.test_plans.specs.Facts.{raws_of}
use Rattle.test_plans.proofs.facts.lists.Given as goal

-- the lists, so far
abbrev pub invariant-loop-sketches : goal.invariant-loop-sketches
invariant-loop-sketches l = l.lists ≡ raws_of (take l.sketches-index l.classes)
