use Rattle.std.proofs.Common.{◌≡◌, take, map}
use Rattle.plan_facts.proofs.listed.nullables_of.Given as goal

-- which variables may stay null, so far
abbrev pub invariant-loop-var : goal.invariant-loop-var
invariant-loop-var l = l.nullables ≡ map (λ var. var.nullable) (take l.var-index l.var-items)
