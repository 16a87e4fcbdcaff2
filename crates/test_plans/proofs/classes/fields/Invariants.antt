use Rattle.std.proofs.Common.{◌≡◌, map, take}
use Rattle.test_plans.specs.Classes.{field_of}
use Rattle.test_plans.proofs.classes.fields.Given as goal

-- the fields, so far
abbrev pub invariant-loop-name : goal.invariant-loop-name
invariant-loop-name l = l.fields ≡ map field_of (take l.name-index l.sketches)
