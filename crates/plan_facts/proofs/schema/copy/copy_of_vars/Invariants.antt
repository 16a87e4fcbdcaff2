use Rattle.std.proofs.Common.{◌≡◌, take}
use Rattle.plan_facts.proofs.schema.copy.copy_of_vars.Given as goal

-- what was copied so far
abbrev pub invariant-loop-var : goal.invariant-loop-var
invariant-loop-var l = l.copy ≡ take l.var-index l.vars
