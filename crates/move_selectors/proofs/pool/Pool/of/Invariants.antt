use Rattle.move_selectors.specs.Pool.{IsPoolUpTo}
use Rattle.move_selectors.proofs.pool.Pool.of.Given as goal

-- the pool of the classes so far
abbrev pub invariant-loop-class : goal.invariant-loop-class
invariant-loop-class l = IsPoolUpTo l.plan l.class l.entities l.classes.items
