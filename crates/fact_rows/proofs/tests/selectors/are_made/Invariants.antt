use Rattle.move_selectors.specs.Pool.{IsPoolOf}
use Rattle.fact_rows.proofs.tests.selectors.are_made.Given as goal

-- the pool stays that of the plan
abbrev pub invariant-loop-case : goal.invariant-loop-case
invariant-loop-case _ l = IsPoolOf l.facts.plan l.pool
