use Rattle.std.proofs.Common.{◌≡◌, map, take, length}
use Rattle.worker_rows.proofs.tests.workers.sizes_of.Given as goal

-- the sizes of the classes so far
abbrev pub invariant-loop-class : goal.invariant-loop-class
invariant-loop-class l = l.sizes ≡ map (λ class. length class.facts) (take l.class l.plan.classes)
