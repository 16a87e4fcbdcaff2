use Rattle.std.proofs.Common.{◌≡◌, take}
use Rattle.plan_facts.proofs.schema.Schema.copy.Given as goal

-- what was copied so far
abbrev pub invariant-loop-class : goal.invariant-loop-class
invariant-loop-class l = l.classes ≡ take l.class-index l.class-items
