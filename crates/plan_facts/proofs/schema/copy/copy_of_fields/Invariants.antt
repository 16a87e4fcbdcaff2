use Rattle.std.proofs.Common.{◌≡◌, take}
use Rattle.plan_facts.proofs.schema.copy.copy_of_fields.Given as goal

-- what was copied so far
abbrev pub invariant-loop-field : goal.invariant-loop-field
invariant-loop-field l = l.copy ≡ take l.field-index l.fields
