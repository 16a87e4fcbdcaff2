use Rattle.std.proofs.Common.{◌≡◌, map, take}
use Rattle.plan_rules.specs.Closures.{capped}
use Rattle.plan_rules.specs.Range.{cap_of}
use Rattle.plan_rules.proofs.handed.caps_of.Given as goal

-- the caps so far
abbrev pub invariant-loop-rule : goal.invariant-loop-rule
invariant-loop-rule g l =
    l.caps ≡ map (cap_of (capped l.weighs)) (take l.rule-index l.defs)
