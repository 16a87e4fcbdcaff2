use Rattle.std.proofs.Common.{◌≡◌, take}
use Rattle.plan_rules.proofs.copies.copy_rules.Given as goal

-- the rules so far
abbrev pub invariant-loop-rule : goal.invariant-loop-rule
invariant-loop-rule l = l.copies ≡ take l.rule-index l.rules
