use Rattle.std.proofs.Common.{◌≡◌, take}
use Rattle.plan_facts.proofs.record.copy_planned.Given as goal

-- what was copied so far
abbrev pub invariant-loop-value : goal.invariant-loop-value
invariant-loop-value l = l.to ≡ take l.value-index l.value-items
